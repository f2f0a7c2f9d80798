-- Blocks, read part by part.
use Rattle.std.{proofs.{Common.{ℕ, Bool, ◌≡◌, ◌≢◌, ◌∙◌, ◌+◌, ◌<◌, ◌≤◌, ◌^◌, ◌⊎◌, inl, inr, true, false, is_some, Option, None, Some, List, [], ◌∷◌, ◌++◌, length, map, ap, sym, subst, refl, append_assoc, arith}, lemmas.List.{append-nil, length-append, length-map, map-append, nil_from_length}}, specs.Borrow.Bor}
use Rattle.tc_rules.specs.Prelude.{Verdict}
use Rattle.tc_text.{specs.{declared.fault.{TextFault.TextFault, TextKind.TextKind}, Prelude.{CanContinue, IsFaultAfter, lines_of}}, proofs.Lemmas.LinesOf.some_line}
use Rattle.tc_blocks.{specs.{Block.header_text, HistoryBlock.end_text, Inside.{AreInside, AreRead, AreTakenBy, GoesOn, IsBadInside, IsFirst, IsInsideFault, IsOpenTo, IsOpened, IsReadBy, IsReadOn, IsReadTo, IsRefused, IsWholeOf, Others, Refuses, Remains, all_lines, open_lines, opened}, Line.line_text, Met.AreMet, Text.{AreBlocks, AreLines, AreWhole, IsBlock, IsFault, IsLine, IsTextOf, block_lines}, declared.{block.Block.Block, header.{Header.Header, Kind.Kind}, line.Line.Line, met.MetRuns.MetRuns, reading.{OpenBlock.OpenBlock, Reading.Reading}}}, proofs.{InsideLines.{head_is, none_yet, tail_is}, Lemmas.Notes.line_no_end}}

-- the first line is none that a block may have
abbrev pub IsNoHeaderLine : (Header → Type 0) → List ℕ → Type 0
IsNoHeaderLine may text = (h : Header) (others : List (List ℕ)) → may h → lines_of text ≡ header_text h ∷ others → ⊥

-- what reading a first line shows: it is that of this block
abbrev pub IsThatHeader : (Header → Type 0) → List ℕ → Header → List ℕ → Type 0
IsThatHeader may text h rest = (g : Header) (others : List (List ℕ)) → may g → lines_of text ≡ header_text g ∷ others → (h ≡ g) × (lines_of rest ≡ others)

-- ---- blocks, one after the other

-- a block has two lines more than those inside
block_count : (b : Block) → length (block_lines b) ≡ length b.lines + 2
block_count b = omega (arith, length-append (map line_text b.lines) (end_text b.verdict ∷ []), length-map b.lines line_text)

all_lines-more : (bs : List Block) (b : Block) → all_lines (bs ++ b ∷ []) ≡ all_lines bs ++ block_lines b
all_lines-more [] b = append-nil (block_lines b)
all_lines-more (x ∷ xs) b = ap (λ l. block_lines x ++ l) (all_lines-more xs b) ∙ sym (append_assoc (block_lines x) (all_lines xs) (block_lines b))

blocks_more : (may : Header → Type 0) (line at : ℕ) (bs : List Block) (b : Block) → AreBlocks may line bs → at ≡ line + length (all_lines bs) → IsBlock may at b → AreBlocks may line (bs ++ b ∷ [])
blocks_more may line at [] b all here one = let same : line ≡ at = omega (arith, here) in (rw same one, tt)
blocks_more may line at (x ∷ xs) b all here one =
    (all.0, blocks_more may (line + length (block_lines x)) at xs b all.1 (omega (arith, here, length-append (block_lines x) (all_lines xs))) one)

-- the lines of a block, and others after them
block_and : (b : Block) (others : List (List ℕ)) → block_lines b ++ others ≡ header_text b.header ∷ (map line_text b.lines ++ end_text b.verdict ∷ others)
block_and b others = ap (λ l. header_text b.header ∷ l) (append_assoc (map line_text b.lines) (end_text b.verdict ∷ []) others)

abbrev make : Header → ℕ → List Line → Verdict → Block
make h line inside v = record { header = h; first_line = line; lines = inside; verdict = v }

same_block : (h : Header) (line : ℕ) (inside : List Line) (v : Verdict) (c : Block) → h ≡ c.header → line ≡ c.first_line → inside ≡ c.lines → v ≡ c.verdict → make h line inside v ≡ c
same_block h line inside v c o p q r = rw (o, p, q, r) refl

-- the lines inside a block, as its first line says
as_header : (kind : Kind) (n : ℕ) (h : Header) (inside : List Line) → kind ≡ h.kind → n ≡ h.behaviours → AreInside kind n inside → AreInside h.kind h.behaviours inside
as_header kind n h inside k few so = subst (λ (m : ℕ). AreInside h.kind m inside) few (subst (λ (x : Kind). AreInside x n inside) k so)

-- a block that begins with this first line and these lines inside
pub record Begins (h : Header) (inside : List Line) (rest : List (List ℕ)) (b : Block) (others : List (List ℕ)) : Type 0 where
  pub header_is : h ≡ b.header
  pub remains : Remains h.kind h.behaviours inside rest b.lines b.verdict others

begins : (may : Header → Type 0) (at : ℕ) (h : Header) (inside : List Line) (rest : List (List ℕ)) (b : Block) (others : List (List ℕ)) → ((g : Header) → may g → header_text h ≡ header_text g → h ≡ g) → AreInside h.kind h.behaviours inside →
    IsBlock may at b → header_text h ∷ (map line_text inside ++ rest) ≡ block_lines b ++ others → Begins h inside rest b others
begins may at h inside rest b others only so is whole =
    let both = whole ∙ block_and b others in
    let same = only b.header is.header (head_is (header_text h) (header_text b.header) _ _ both) in
    record {
      header_is = same;
      remains = so.only rest b.lines b.verdict others (subst (λ (x : Header). AreLines x.kind x.behaviours [] b.lines) (sym same) is.inside) (tail_is (header_text h) (header_text b.header) _ _ both);
    }

-- the block is read whole
pub block_read : (may : Header → Type 0) (blocks new : List Block) (at next : ℕ) (h : Header) (inside : List Line) (v : Verdict) → h.behaviours < 2 ^ 16 → AreRead may blocks at → may h → ((g : Header) → may g → header_text h ≡ header_text g → h ≡ g) →
    AreInside h.kind h.behaviours inside → ((w : Verdict) → end_text v ≡ end_text w → v ≡ w) → new ≡ blocks ++ make h at inside v ∷ [] → next ≡ at + (length inside + 2) → AreRead may new next
block_read may blocks new at next h inside v small read header only so ends added more = rw added (record {
  fits = let number = read.number in blocks_more may 1 at blocks b read.fits (omega (arith, number)) (record { header = header; inside = so.right; first = refl });
  number =
      let number = read.number in
      let grown = ap length (all_lines-more blocks b) in
      omega (arith, number, grown, more, length-append (all_lines blocks) (block_lines b), block_count b);
  only = λ rest all is whole. by_others rest all (read.only (block_lines b ++ rest) all is (sym (append_assoc (all_lines blocks) (block_lines b) rest) ∙ (ap (λ l. l ++ rest) (sym (all_lines-more blocks b)) ∙ whole)));
})
  where
    b : Block
    b = make h at inside v

    by_block : (rest : List (List ℕ)) (all : List Block) (t : Block) (ts : List Block) → all ≡ blocks ++ t ∷ ts → AreBlocks may at (t ∷ ts) → Begins h inside (end_text v ∷ rest) t (all_lines ts) → (tail : List Line) → t.lines ≡ inside ++ tail →
        end_text v ∷ rest ≡ map line_text tail ++ end_text t.verdict ∷ all_lines ts → AreLines h.kind h.behaviours inside tail → Others may (blocks ++ b ∷ []) rest next all
    by_block rest all t ts parts right that [] same spelled lines_right =
        let verdict = ends t.verdict (head_is (end_text v) (end_text t.verdict) rest (all_lines ts) spelled) in
        let first = right.0 in
        let block : b ≡ t = same_block h at inside v t that.header_is (sym first.first) (sym (same ∙ append-nil inside)) verdict in
        let longer : at + length (block_lines t) ≡ next = rw (← block) (omega (arith, more, block_count b)) in
        record {
          tail = ts;
          parts = parts ∙ (ap (λ x. blocks ++ x ∷ ts) (sym block) ∙ sym (append_assoc blocks (b ∷ []) ts));
          spelled = tail_is (end_text v) (end_text t.verdict) rest (all_lines ts) spelled;
          fits = rw longer at right.1;
        }
    by_block rest all t ts parts right that (x ∷ xs) same spelled lines_right =
        absurd (line_no_end h.kind h.behaviours inside x v small lines_right.0 (sym (head_is (end_text v) (line_text x) rest (map line_text xs ++ end_text t.verdict ∷ all_lines ts) spelled)))

    by_tail : (rest : List (List ℕ)) (all tail : List Block) → all ≡ blocks ++ tail → block_lines b ++ rest ≡ all_lines tail → AreBlocks may at tail → Others may (blocks ++ b ∷ []) rest next all
    by_tail rest all [] parts spelled right = absurd cc
    by_tail rest all (t ∷ ts) parts spelled right =
        let that = begins may at h inside (end_text v ∷ rest) t (all_lines ts) only so right.0 (sym (block_and b rest) ∙ spelled) in
        let remains = that.remains in
        by_block rest all t ts parts right that remains.tail remains.parts remains.spelled remains.right

    by_others : (rest : List (List ℕ)) (all : List Block) → Others may blocks (block_lines b ++ rest) at all → Others may (blocks ++ b ∷ []) rest next all
    by_others rest all so = by_tail rest all so.tail so.parts so.spelled so.fits

-- ---- how far a text is read, with what block is open

pub with_none : {H O : Type 0} (stands : List Block → H → Type 0) (opens : ℕ → Header → List Line → O → Type 0) (before : List (List ℕ)) (reading : Reading H O) →
    reading.block ≡ None → IsReadBy stands opens before reading → IsReadTo {O = O} stands opens (IsFirst reading.only_histories) before reading.made None reading.line
with_none {H} {O} stands opens before reading none so =
    subst (λ (b : Option (OpenBlock O)). IsReadTo stands opens (IsFirst reading.only_histories) before reading.made b reading.line) none so

-- ---- a block begins

pub begun : {H O : Type 0} (stands : List Block → H → Type 0) (opens : ℕ → Header → List Line → O → Type 0) (may : Header → Type 0) (before : List (List ℕ)) (text rest : List ℕ) (made : H) (line : ℕ) (h : Header) (block : OpenBlock O) →
    IsReadTo {O = O} stands opens may before made None line → lines_of text ≡ header_text h ∷ lines_of rest → may h → IsThatHeader may text h rest → block.kind ≡ h.kind → block.behaviours ≡ h.behaviours → AreMet block.met [] → opens line h [] block.begun →
    IsReadOn stands opens may before text rest made (Some block) (line + 1)
begun {H} {O} stands opens may before text rest made line h block so spelled header only kind few met opened = record {
  taken = header_text h ∷ [];
  lines = spelled;
  read = record { blocks = so.blocks; at = so.at; read = so.read; made_is = so.made_is; place = place };
}
  where
    place : IsOpened opens may so.blocks so.at (before ++ header_text h ∷ []) block (line + 1)
    place = record {
      header = h;
      inside = [];
      header_is = header;
      header_only = λ g is same. let two = only g (lines_of rest) is (spelled ∙ ap (λ (x : List ℕ). x ∷ lines_of rest) same) in two.0;
      kind_is = kind;
      few = few;
      open_to = record {
        read = none_yet block.kind block.behaviours;
        met_are = met;
        opened = subst (λ (l : ℕ). opens l h [] block.begun) so.place.1 opened;
        line_is = let here = so.place.1 in omega (arith, here);
      };
      lines_are = ap (λ x. x ++ header_text h ∷ []) so.place.0;
    }

-- no block can begin
pub bad_header : {H O : Type 0} (stands : List Block → H → Type 0) (opens : ℕ → Header → List Line → O → Type 0) (may : Header → Type 0) (before : List (List ℕ)) (text : List ℕ) (made : H) (line : ℕ) →
    text ≢ [] → IsNoHeaderLine may text → IsReadTo {O = O} stands opens may before made None line → IsRefused may (before ++ lines_of text) (TextFault.At line TextKind.FirstLine)
bad_header stands opens may before text made line some none so whole future is = record {
  before = before;
  rest = bad.0 ∷ (bad.1.0 ++ future);
  lines = is ∙ (ap (λ x. (before ++ x) ++ future) bad.1.1 ∙ append_assoc before (bad.0 ∷ bad.1.0) future);
  number = let number = so.read.number in let here = so.place.1 in let lines = ap length so.place.0 in omega (arith, number, here, lines);
  right = ([], (so.blocks, so.read.fits, append-nil before ∙ so.place.0));
  fault = (
    λ can.
        let whole = can.1 in
        let others = so.read.only (bad.0 ∷ can.0) whole.0 whole.1 (ap (λ x. x ++ bad.0 ∷ can.0) (sym so.place.0) ∙ (sym (append_assoc before (bad.0 ∷ []) can.0) ∙ whole.2)) in
        by_tail can.0 others.tail others.spelled others.fits,
    inl (refl, (so.blocks, so.read.fits, so.place.0)),
  );
}
  where
    bad : (line : List ℕ) × ((others : List (List ℕ)) × (lines_of text ≡ line ∷ others))
    bad = some_line text some

    by_tail : (more : List (List ℕ)) (tail : List Block) → bad.0 ∷ more ≡ all_lines tail → AreBlocks may so.at tail → ⊥
    by_tail more [] spelled right = absurd cc
    by_tail more (t ∷ ts) spelled right =
        let first = right.0 in
        let same = head_is bad.0 (header_text t.header) _ _ (spelled ∙ block_and t (all_lines ts)) in
        none t.header bad.1.0 first.header (bad.1.1 ∙ ap (λ (x : List ℕ). x ∷ bad.1.0) same)

-- ---- a block goes on

open_lines_more : (h : Header) (inside taken : List Line) → open_lines h inside ++ map line_text taken ≡ open_lines h (inside ++ taken)
open_lines_more h inside taken = ap (λ l. header_text h ∷ l) (sym (map-append line_text inside taken))

-- up to the end of the text
pub gone_on : {H O : Type 0} (stands : List Block → H → Type 0) (opens : ℕ → Header → List Line → O → Type 0) (may : Header → Type 0) (before : List (List ℕ)) (text rest : List ℕ) (made : H) (line next : ℕ) (block after : OpenBlock O) →
    IsReadTo stands opens may before made (Some block) line → AreTakenBy opens block.kind block.behaviours text line block.met after.met block.begun after.begun next None → rest ≡ [] → after.kind ≡ block.kind → after.behaviours ≡ block.behaviours →
    IsReadOn stands opens may before text rest made (Some after) next
gone_on stands opens may before text rest made line next block after so goes nothing kind few = record {
  taken = map line_text goes.taken;
  lines = goes.spelled ∙ (sym (append-nil (map line_text goes.taken)) ∙ ap (λ r. map line_text goes.taken ++ lines_of r) (sym nothing));
  read = record { blocks = so.blocks; at = so.at; read = so.read; made_is = so.made_is; place = place so.place };
}
  where
    place : IsOpened opens may so.blocks so.at before block line → IsOpened opens may so.blocks so.at (before ++ map line_text goes.taken) after next
    place p = record {
      header = p.header;
      inside = p.inside ++ goes.taken;
      header_is = p.header_is;
      header_only = p.header_only;
      kind_is = kind ∙ p.kind_is;
      few = few ∙ p.few;
      open_to = subst (λ (k : Kind). IsOpenTo opens k after.behaviours so.at p.header (p.inside ++ goes.taken) after.met after.begun next) (sym kind)
          (subst (λ (n : ℕ). IsOpenTo opens block.kind n so.at p.header (p.inside ++ goes.taken) after.met after.begun next) (sym few) (goes.opened so.at p.header p.inside p.open_to));
      lines_are = ap (λ x. x ++ map line_text goes.taken) p.lines_are
          ∙ (append_assoc (all_lines so.blocks) (open_lines p.header p.inside) (map line_text goes.taken) ∙ ap (λ x. all_lines so.blocks ++ x) (open_lines_more p.header p.inside goes.taken));
    }

-- up to its last line
pub closed : {H O : Type 0} (stands : List Block → H → Type 0) (opens : ℕ → Header → List Line → O → Type 0) (may : Header → Type 0) (before : List (List ℕ)) (text : List ℕ) (made made' : H) (line next : ℕ) (block : OpenBlock O) (met : MetRuns) (value : O) (end : Verdict × Bor (List ℕ)) →
    block.behaviours < 2 ^ 16 → IsReadTo stands opens may before made (Some block) line → AreTakenBy opens block.kind block.behaviours text line block.met met block.begun value next (Some end) →
    ((blocks : List Block) (b : Block) → next ≡ b.first_line + length b.lines + 1 → end.0 ≡ b.verdict → opens b.first_line b.header b.lines value → stands blocks made → stands (blocks ++ b ∷ []) made') →
    IsReadOn {O = O} stands opens may before text end.1.now made' None (next + 1)
closed {H} {O} stands opens may before text made made' line next block met value end small so goes closes = by_place so.place
  where
    e : List (List ℕ)
    e = end_text end.0 ∷ []

    by_place : IsOpened opens may so.blocks so.at before block line → IsReadOn {O = O} stands opens may before text end.1.now made' None (next + 1)
    by_place p = record {
      taken = map line_text goes.taken ++ e;
      lines = goes.spelled.0 ∙ sym (append_assoc (map line_text goes.taken) e (lines_of end.1.now));
      read = record {
        blocks = so.blocks ++ b ∷ [];
        at = next + 1;
        read = block_read may so.blocks (so.blocks ++ b ∷ []) so.at (next + 1) p.header (p.inside ++ goes.taken) end.0 (let few = p.few in omega (arith, small, few)) so.read p.header_is p.header_only
            (as_header block.kind block.behaviours p.header (p.inside ++ goes.taken) p.kind_is p.few now.read) goes.spelled.1 refl (omega (arith, here));
        made_is = closes so.blocks b (omega (arith, here)) refl now.opened so.made_is;
        place = (lines, refl);
      };
    }
      where
        b : Block
        b = make p.header so.at (p.inside ++ goes.taken) end.0

        now : IsOpenTo opens block.kind block.behaviours so.at p.header (p.inside ++ goes.taken) met value next
        now = goes.opened so.at p.header p.inside p.open_to

        here : next ≡ so.at + 1 + length (p.inside ++ goes.taken)
        here = now.line_is

        m : List (List ℕ)
        m = map line_text goes.taken

        o : List (List ℕ)
        o = open_lines p.header p.inside

        lines : before ++ (m ++ e) ≡ all_lines (so.blocks ++ b ∷ [])
        lines = ap (λ x. x ++ (m ++ e)) p.lines_are
            ∙ (append_assoc (all_lines so.blocks) o (m ++ e)
            ∙ (ap (λ x. all_lines so.blocks ++ x) (sym (append_assoc o m e) ∙ ap (λ x. x ++ e) (open_lines_more p.header p.inside goes.taken))
            ∙ sym (all_lines-more so.blocks b)))

-- ---- an open block

module _ (may : Header → Type 0) (blocks : List Block) (at : ℕ) (h : Header) (inside : List Line) (read : AreRead may blocks at) (header : may h) (only : (g : Header) → may g → header_text h ≡ header_text g → h ≡ g) (so : AreInside h.kind h.behaviours inside) where
  abbrev lines_so : List (List ℕ)
  lines_so = all_lines blocks ++ open_lines h inside

  -- what whole blocks have after these lines
  continued : (more : List (List ℕ)) → AreWhole may (lines_so ++ more) → (b : Block) × (others : List (List ℕ)) × Remains h.kind h.behaviours inside more b.lines b.verdict others
  continued more whole = by_tail others.tail others.spelled others.fits
    where
      others : Others may blocks (open_lines h inside ++ more) at whole.0
      others = read.only (open_lines h inside ++ more) whole.0 whole.1 (sym (append_assoc (all_lines blocks) (open_lines h inside) more) ∙ whole.2)

      by_tail : (tail : List Block) → open_lines h inside ++ more ≡ all_lines tail → AreBlocks may at tail → (b : Block) × (others : List (List ℕ)) × Remains h.kind h.behaviours inside more b.lines b.verdict others
      by_tail [] spelled right = absurd cc
      by_tail (t ∷ ts) spelled right = let that = begins may at h inside more t (all_lines ts) only so right.0 spelled in (t, all_lines ts, that.remains)

  open_continues : CanContinue (AreWhole may) lines_so
  open_continues =
      let number = read.number in
      let b = make h at inside Verdict.None in (
        end_text Verdict.None ∷ [],
        (
          blocks ++ b ∷ [],
          blocks_more may 1 at blocks b read.fits (omega (arith, number)) (record { header = header; inside = so.right; first = refl }),
          append_assoc (all_lines blocks) (open_lines h inside) (end_text Verdict.None ∷ []) ∙ sym (all_lines-more blocks b),
        ),
      )

  open_is_not_whole : AreWhole may lines_so → ⊥
  open_is_not_whole whole = let next = continued [] (subst (λ (x : List (List ℕ)). AreWhole may x) (sym (append-nil lines_so)) whole) in by_tail next.0 next.1 next.2.tail next.2.spelled
    where
      by_tail : (b : Block) (others : List (List ℕ)) (tail : List Line) → [] ≡ map line_text tail ++ end_text b.verdict ∷ others → ⊥
      by_tail b others [] spelled = cc
      by_tail b others (x ∷ xs) spelled = cc

  -- neither a line that may come nor a last line
  bad_next : (bad : List ℕ) → ((l : Line) → IsLine h.kind h.behaviours inside l → bad ≢ line_text l) → ((v : Verdict) → bad ≢ end_text v) → CanContinue (AreWhole may) (lines_so ++ bad ∷ []) → ⊥
  bad_next bad no_line no_end can =
      let next = continued (bad ∷ can.0) (subst (λ (x : List (List ℕ)). AreWhole may x) (append_assoc lines_so (bad ∷ []) can.0) can.1) in
      by_tail next.0 next.1 next.2.tail next.2.spelled next.2.right
    where
      by_tail : (b : Block) (others : List (List ℕ)) (tail : List Line) → bad ∷ can.0 ≡ map line_text tail ++ end_text b.verdict ∷ others → AreLines h.kind h.behaviours inside tail → ⊥
      by_tail b others [] spelled right = no_end b.verdict (head_is bad (end_text b.verdict) can.0 others spelled)
      by_tail b others (x ∷ xs) spelled right = no_line x right.0 (head_is bad (line_text x) can.0 (map line_text xs ++ end_text b.verdict ∷ others) spelled)

-- in a line that may not come
bad_line_refused : (may : Header → Type 0) (blocks : List Block) (at line : ℕ) (h : Header) (inside : List Line) (before : List (List ℕ)) (text : List ℕ) → AreRead may blocks at → may h → ((g : Header) → may g → header_text h ≡ header_text g → h ≡ g) →
    before ≡ all_lines blocks ++ open_lines h inside → IsBadInside h.kind h.behaviours inside at text line → IsRefused may (before ++ lines_of text) (TextFault.At line TextKind.Entry)
bad_line_refused may blocks at line h inside before text read header only before_is bad whole future is = record {
  before = all_lines blocks ++ open_lines h bad.all;
  rest = bad.bad_line ∷ (bad.others ++ future);
  lines = is
      ∙ (ap (λ x. (before ++ x) ++ future) bad.lines
      ∙ (ap (λ x. x ++ future) (sym (append_assoc before (map line_text bad.taken) (bad.bad_line ∷ bad.others)))
      ∙ (append_assoc (before ++ map line_text bad.taken) (bad.bad_line ∷ bad.others) future ∙ ap (λ x. x ++ bad.bad_line ∷ (bad.others ++ future)) longer)));
  number =
      let number = read.number in
      let here = bad.number in
      omega (arith, number, here, length-append (all_lines blocks) (open_lines h bad.all), length-map bad.all line_text);
  right = open_continues may blocks at h bad.all read header only bad.read;
  fault = (
    bad_next may blocks at h bad.all read header only bad.read bad.bad_line bad.no_line bad.no_end,
    inr (refl, open_is_not_whole may blocks at h bad.all read header only bad.read),
  );
}
  where
    longer : before ++ map line_text bad.taken ≡ all_lines blocks ++ open_lines h bad.all
    longer = ap (λ x. x ++ map line_text bad.taken) before_is
        ∙ (append_assoc (all_lines blocks) (open_lines h inside) (map line_text bad.taken) ∙ ap (λ x. all_lines blocks ++ x) (open_lines_more h inside bad.taken ∙ ap (open_lines h) (sym bad.parts)))

pub bad_line : {H O : Type 0} (stands : List Block → H → Type 0) (opens : ℕ → Header → List Line → O → Type 0) (may : Header → Type 0) (before : List (List ℕ)) (text : List ℕ) (made : H) (line : ℕ) (block : OpenBlock O) (fault : TextFault) →
    ((at : ℕ) (h : Header) (inside : List Line) → IsOpenTo opens block.kind block.behaviours at h inside block.met block.begun line → IsInsideFault block.kind block.behaviours inside at text fault) →
    IsReadTo stands opens may before made (Some block) line → IsRefused may (before ++ lines_of text) fault
bad_line stands opens may before text made line block (TextFault.At at TextKind.Entry) bad so =
    let p = so.place in
    let inside = bad so.at p.header p.inside p.open_to in
    bad_line_refused may so.blocks so.at at p.header p.inside before text so.read p.header_is p.header_only p.lines_are
    (subst (λ (m : ℕ). IsBadInside p.header.kind m p.inside so.at text at) p.few (subst (λ (x : Kind). IsBadInside x block.behaviours p.inside so.at text at) p.kind_is inside))
bad_line stands opens may before text made line block TextFault.NoMemory bad so = λ whole future is. tt
bad_line stands opens may before text made line block _ bad so = let p = so.place in absurd (bad so.at p.header p.inside p.open_to)

-- ---- part after part

-- what was read before the text, and no more of it
pub none_on : {H O : Type 0} (stands : List Block → H → Type 0) (opens : ℕ → Header → List Line → O → Type 0) (may : Header → Type 0) (before : List (List ℕ)) (text : List ℕ) (made : H) (block : Option (OpenBlock O)) (line : ℕ) →
    IsReadTo stands opens may before made block line → IsReadOn stands opens may before text text made block line
none_on stands opens may before text made block line so =
    record { taken = []; lines = refl; read = subst (λ (x : List (List ℕ)). IsReadTo stands opens may x made block line) (sym (append-nil before)) so }

-- from some lines of the text on
pub on_from : {H O : Type 0} (stands : List Block → H → Type 0) (opens : ℕ → Header → List Line → O → Type 0) (may : Header → Type 0) (before taken : List (List ℕ)) (text middle rest : List ℕ) (made : H) (block : Option (OpenBlock O)) (line : ℕ) →
    lines_of text ≡ taken ++ lines_of middle → IsReadOn stands opens may (before ++ taken) middle rest made block line → IsReadOn stands opens may before text rest made block line
on_from stands opens may before taken text middle rest made block line lines so = record {
  taken = taken ++ so.taken;
  lines = lines ∙ (ap (λ x. taken ++ x) so.lines ∙ sym (append_assoc taken so.taken (lines_of rest)));
  read = subst (λ (x : List (List ℕ)). IsReadTo stands opens may x made block line) (append_assoc before taken so.taken) so.read;
}

-- all of it
pub on_whole : {H O : Type 0} (stands : List Block → H → Type 0) (opens : ℕ → Header → List Line → O → Type 0) (may : Header → Type 0) (before : List (List ℕ)) (text rest : List ℕ) (made : H) (block : Option (OpenBlock O)) (line : ℕ) →
    rest ≡ [] → IsReadOn stands opens may before text rest made block line → IsReadTo stands opens may (before ++ lines_of text) made block line
on_whole stands opens may before text rest made block line nothing so =
    let same : lines_of text ≡ so.taken = so.lines ∙ (ap (λ r. so.taken ++ lines_of r) nothing ∙ append-nil so.taken) in
    subst (λ (x : List (List ℕ)). IsReadTo stands opens may (before ++ x) made block line) (sym same) so.read

-- a fault from some lines of the text on
pub refused_from : (may : Header → Type 0) (before taken : List (List ℕ)) (text middle : List ℕ) (fault : TextFault) → lines_of text ≡ taken ++ lines_of middle → IsRefused may ((before ++ taken) ++ lines_of middle) fault → IsRefused may (before ++ lines_of text) fault
refused_from may before taken text middle fault lines bad =
    subst (λ (x : List (List ℕ)). IsRefused may x fault) (append_assoc before taken (lines_of middle) ∙ ap (λ x. before ++ x) (sym lines)) bad

-- ---- the end

pub whole_read : {H O : Type 0} (stands : List Block → H → Type 0) (opens : ℕ → Header → List Line → O → Type 0) (may : Header → Type 0) (text : List ℕ) (made : H) (line : ℕ) →
    line ≢ 1 → IsReadTo {O = O} stands opens may (lines_of text) made None line → IsWholeOf stands may text made
whole_read stands opens may text made line later so = record {
  blocks = so.blocks;
  text_is = record { some = some; fits = so.read.fits; lines = so.place.0 };
  made_is = λ all is. let others = so.read.only [] all is.fits (append-nil (all_lines so.blocks) ∙ (sym so.place.0 ∙ is.lines)) in by_tail all others.tail others.parts others.spelled;
}
  where
    some : so.blocks ≢ []
    some none = later (so.place.1 ∙ (so.read.number ∙ ap (λ bs. length (all_lines bs) + 1) none))

    by_tail : (all tail : List Block) → all ≡ so.blocks ++ tail → [] ≡ all_lines tail → stands all made
    by_tail all [] parts spelled = subst (λ (bs : List Block). stands bs made) (sym (parts ∙ append-nil so.blocks)) so.made_is
    by_tail all (t ∷ ts) parts spelled = absurd cc

early_none : {H O : Type 0} (stands : List Block → H → Type 0) (opens : ℕ → Header → List Line → O → Type 0) (may : Header → Type 0) (text : List ℕ) (made : H) (line : ℕ) →
    line ≡ 1 → IsReadTo {O = O} stands opens may (lines_of text) made None line → IsFault may text (TextFault.At line TextKind.Early)
early_none stands opens may text made line first so = record {
  before = [];
  rest = [];
  lines = let number = so.read.number in let here = so.place.1 in so.place.0 ∙ nil_from_length (all_lines so.blocks) (omega (arith, number, here, first));
  number = first;
  right = ([], ([], tt, refl));
  fault = (refl, λ whole. refl);
}

early_open : {H O : Type 0} (stands : List Block → H → Type 0) (opens : ℕ → Header → List Line → O → Type 0) (may : Header → Type 0) (text : List ℕ) (made : H) (line : ℕ) (block : OpenBlock O) →
    IsReadTo stands opens may (lines_of text) made (Some block) line → IsFault may text (TextFault.At line TextKind.Early)
early_open {H} {O} stands opens may text made line block so = by_place so.place
  where
    by_place : IsOpened opens may so.blocks so.at (lines_of text) block line → IsFault may text (TextFault.At line TextKind.Early)
    by_place p = record {
      before = all_lines so.blocks ++ open_lines p.header p.inside;
      rest = [];
      lines = p.lines_are ∙ sym (append-nil (all_lines so.blocks ++ open_lines p.header p.inside));
      number =
          let number = so.read.number in
          let here = p.open_to.line_is in
          omega (arith, number, here, length-append (all_lines so.blocks) (open_lines p.header p.inside), length-map p.inside line_text);
      right = open_continues may so.blocks so.at p.header p.inside so.read p.header_is p.header_only inside_is;
      fault = (refl, λ whole. absurd (open_is_not_whole may so.blocks so.at p.header p.inside so.read p.header_is p.header_only inside_is whole));
    }
      where
        inside_is : AreInside p.header.kind p.header.behaviours p.inside
        inside_is = as_header block.kind block.behaviours p.header p.inside p.kind_is p.few p.open_to.read

pub early_if : {H O : Type 0} (stands : List Block → H → Type 0) (opens : ℕ → Header → List Line → O → Type 0) (may : Header → Type 0) (text : List ℕ) (made : H) (line : ℕ) (block : Option (OpenBlock O)) →
    (is_some block ≡ true) ⊎ (line ≡ 1) → IsReadTo stands opens may (lines_of text) made block line → IsFault may text (TextFault.At line TextKind.Early)
early_if stands opens may text made line None (inl some) so = absurd cc
early_if stands opens may text made line None (inr first) so = early_none stands opens may text made line first so
early_if stands opens may text made line (Some block) which so = early_open stands opens may text made line block so

-- a text with a fault is that of no blocks
pub fault_only : (may : Header → Type 0) (text : List ℕ) (fault : TextFault) (all : List Block) → IsFault may text fault → IsTextOf may text all → fault ≡ TextFault.NoMemory
fault_only may text TextFault.NoMemory all bad is = refl
fault_only may text (TextFault.At line kind) all bad is = absurd (by_rest kind bad.rest (sym bad.lines ∙ is.lines) bad.fault)
  where
    nothing : (blocks : List Block) → blocks ≢ [] → [] ≡ all_lines blocks → ⊥
    nothing [] some none = some refl
    nothing (b ∷ bs) some none = cc

    by_rest : (kind : TextKind) (rest : List (List ℕ)) → bad.before ++ rest ≡ all_lines all → IsFaultAfter (AreWhole may) (AreWhole may) TextKind.Entry bad.before rest kind → ⊥
    by_rest kind [] lines fault = let before_is = sym (append-nil bad.before) ∙ lines in nothing all is.some (sym (fault.1 (all, is.fits, before_is)) ∙ before_is)
    by_rest kind (next ∷ rest) lines fault = fault.0 (rest, (all, is.fits, append_assoc bad.before (next ∷ []) rest ∙ lines))

pub whole_if : {H O : Type 0} (stands : List Block → H → Type 0) (opens : ℕ → Header → List Line → O → Type 0) (may : Header → Type 0) (text : List ℕ) (made : H) (line : ℕ) (block : Option (OpenBlock O)) →
    is_some block ≡ false → line ≢ 1 → IsReadTo stands opens may (lines_of text) made block line → IsWholeOf stands may text made
whole_if stands opens may text made line None none later so = whole_read stands opens may text made line later so
whole_if stands opens may text made line (Some block) none later so = absurd cc

-- ---- one step after the other

-- the text is read up to the rest; the number of the next line leaves room for the rest
pub record IsGoneOn {H O : Type 0} (stands : List Block → H → Type 0) (opens : ℕ → Header → List Line → O → Type 0) (before : Reading H O) (text : List ℕ) (after : Reading H O) (rest : List ℕ) : Type 0 where
  pub on : GoesOn stands opens before text after rest
  pub room : after.line + length rest ≤ before.line + length text

pub as_first : {H O : Type 0} (stands : List Block → H → Type 0) (opens : ℕ → Header → List Line → O → Type 0) (only other : Bool) (lines : List (List ℕ)) (made : H) (block : Option (OpenBlock O)) (line : ℕ) → other ≡ only →
    IsReadTo stands opens (IsFirst only) lines made block line → IsReadTo stands opens (IsFirst other) lines made block line
as_first stands opens only other lines made block line same so = subst (λ (o : Bool). IsReadTo stands opens (IsFirst o) lines made block line) (sym same) so

pub gone_more : {H O : Type 0} (stands : List Block → H → Type 0) (opens : ℕ → Header → List Line → O → Type 0) (before middle after : Reading H O) (text rest behind : List ℕ) → IsGoneOn stands opens before text middle rest → GoesOn stands opens middle rest after behind →
    after.line + length behind ≤ middle.line + length rest → IsGoneOn stands opens before text after behind
gone_more {H} {O} stands opens before middle after text rest behind so one room = record {
  on = record { same = one.same ∙ so.on.same; goes = goes };
  room = let first = so.room in omega (arith, first, room);
}
  where
    goes : (lines : List (List ℕ)) → IsReadBy stands opens lines before → IsReadOn stands opens (IsFirst before.only_histories) lines text behind after.made after.block after.line
    goes lines is =
        let done = so.on.goes lines is in
        let next = one.goes (lines ++ done.taken) (as_first stands opens before.only_histories middle.only_histories (lines ++ done.taken) middle.made middle.block middle.line so.on.same done.read) in
        on_from stands opens (IsFirst before.only_histories) lines done.taken text rest behind after.made after.block after.line done.lines
        (subst (λ (o : Bool). IsReadOn stands opens (IsFirst o) (lines ++ done.taken) rest behind after.made after.block after.line) so.on.same next)

-- a reading whose block is open
pub with_open : {H O : Type 0} (r : Reading H O) (block : OpenBlock O) → r.block ≡ Some block → opened r block ≡ r
with_open r block is = ap (λ b. record r { block = b }) (sym is)

-- a block begins with the first line of the text
pub block_begins : {H O : Type 0} (stands : List Block → H → Type 0) (opens : ℕ → Header → List Line → O → Type 0) (reading : Reading H O) (text rest : List ℕ) (h : Header) (block : OpenBlock O) → reading.block ≡ None →
    lines_of text ≡ header_text h ∷ lines_of rest → IsFirst reading.only_histories h → IsThatHeader (IsFirst reading.only_histories) text h rest → block.kind ≡ h.kind → block.behaviours ≡ h.behaviours → AreMet block.met [] → opens reading.line h [] block.begun →
    length rest < length text → IsGoneOn stands opens reading text (opened (record reading { line = reading.line + 1 }) block) rest
block_begins stands opens reading text rest h block closed spelled header only kind few met opened_is less = record {
  on = record {
    same = refl;
    goes = λ before so.
        begun stands opens (IsFirst reading.only_histories) before text rest reading.made reading.line h block (with_none stands opens before reading closed so) spelled header only kind few met opened_is;
  };
  room = omega (arith, less);
}

pub refused_more : {H O : Type 0} (stands : List Block → H → Type 0) (opens : ℕ → Header → List Line → O → Type 0) (before middle : Reading H O) (text rest : List ℕ) (fault : TextFault) → IsGoneOn stands opens before text middle rest → Refuses stands opens middle rest fault →
    Refuses stands opens before text fault
refused_more stands opens before middle text rest fault so bad = record {
  refused = λ lines is.
      let done = so.on.goes lines is in
      let next = bad.refused (lines ++ done.taken) (as_first stands opens before.only_histories middle.only_histories (lines ++ done.taken) middle.made middle.block middle.line so.on.same done.read) in
      refused_from (IsFirst before.only_histories) lines done.taken text rest fault done.lines (subst (λ (o : Bool). IsRefused (IsFirst o) ((lines ++ done.taken) ++ lines_of rest) fault) so.on.same next);
}

-- ---- a text that is one part

pub refused_whole : {H O : Type 0} (stands : List Block → H → Type 0) (opens : ℕ → Header → List Line → O → Type 0) (reading : Reading H O) (only : Bool) (text : List ℕ) (fault : TextFault) → reading.only_histories ≡ only → IsReadBy stands opens [] reading → Refuses stands opens reading text fault →
    IsFault (IsFirst only) text fault
refused_whole stands opens reading only text fault same so bad = subst (λ (o : Bool). IsFault (IsFirst o) text fault) same (bad.refused [] so text [] (sym (append-nil (lines_of text))))

pub whole_by : {H O : Type 0} (stands : List Block → H → Type 0) (opens : ℕ → Header → List Line → O → Type 0) (before after : Reading H O) (text : List ℕ) → IsReadBy stands opens [] before → GoesOn stands opens before text after [] → IsReadBy stands opens (lines_of text) after
whole_by stands opens before after text so one =
    as_first stands opens before.only_histories after.only_histories (lines_of text) after.made after.block after.line one.same
    (on_whole stands opens (IsFirst before.only_histories) [] text [] after.made after.block after.line refl (one.goes [] so))
