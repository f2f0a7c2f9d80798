-- How far the lines inside a block are read.
use Rattle.std.proofs.{Common.{ℕ, ◌≡◌, ◌≢◌, ◌∙◌, ◌+◌, ◌≤◌, List, [], ◌∷◌, ◌++◌, length, map, ap, sym, subst, refl, append_assoc, arith}, lemmas.List.{append-nil, length-append, map-append}}
use Rattle.tc_rules.specs.Prelude.{Verdict}
use Rattle.tc_text.{specs.Prelude.lines_of, proofs.Lemmas.LinesOf.some_line}
use Rattle.tc_blocks.{specs.{HistoryBlock.end_text, Inside.{AreAlike, AreInside, IsBadInside, IsLineTakenBy, IsNext, IsNoLine, IsOpenTo, Remains, TakesLineIn}, Line.line_text, Met.AreMet, Text.{AreLines, IsLine}, declared.{header.{Header.Header, Kind.Kind}, line.Line.Line, met.MetRuns.MetRuns, reading.OpenBlock.OpenBlock}}, proofs.Lemmas.Meeting.met_after}

-- the first line is no last line of a block
abbrev pub IsNoEndLine : List ℕ → Type 0
IsNoEndLine text = (v : Verdict) (others : List (List ℕ)) → lines_of text ≡ end_text v ∷ others → ⊥

pub head_is : (x y : List ℕ) (xs ys : List (List ℕ)) → x ∷ xs ≡ y ∷ ys → x ≡ y
head_is x y xs ys e = cc

pub tail_is : (x y : List ℕ) (xs ys : List (List ℕ)) → x ∷ xs ≡ y ∷ ys → xs ≡ ys
tail_is x y xs ys e = cc

pub none_yet : (kind : Kind) (n : ℕ) → AreInside kind n []
none_yet kind n = record { right = tt; only = λ rest ls w others right whole. record { tail = ls; parts = refl; spelled = whole; right = right } }

-- one more line may come after lines
right_more : (kind : Kind) (n : ℕ) (before ls : List Line) (l : Line) → AreLines kind n before ls → IsLine kind n (before ++ ls) l → AreLines kind n before (ls ++ l ∷ [])
right_more kind n before [] l are one = (subst (λ (b : List Line). IsLine kind n b l) (append-nil before) one, tt)
right_more kind n before (x ∷ xs) l are one =
    (are.0, right_more kind n (before ++ x ∷ []) xs l are.1 (subst (λ (b : List Line). IsLine kind n b l) (sym (append_assoc before (x ∷ []) xs)) one))

pub lines_more : (inside new : List Line) (rest : List (List ℕ)) (l : Line) → new ≡ inside ++ l ∷ [] → map line_text inside ++ line_text l ∷ rest ≡ map line_text new ++ rest
lines_more inside new rest l added =
    sym (append_assoc (map line_text inside) (line_text l ∷ []) rest)
    ∙ ap (λ x. x ++ rest) (sym (map-append line_text inside (l ∷ [])) ∙ ap (map line_text) (sym added))

more_remains : (kind : Kind) (n : ℕ) (inside new : List Line) (rest after : List ℕ) (future : List (List ℕ)) (l : Line) (ls : List Line) (w : Verdict) (others : List (List ℕ)) → new ≡ inside ++ l ∷ [] → IsNoEndLine rest →
    IsNext (IsLine kind n inside) rest l after → Remains kind n inside (line_text l ∷ future) ls w others → Remains kind n new future ls w others
more_remains kind n inside new rest after future l ls w others added no_end next so = by_tail so.tail so.parts so.spelled so.right
  where
    by_tail : (tail : List Line) → ls ≡ inside ++ tail → line_text l ∷ future ≡ map line_text tail ++ end_text w ∷ others → AreLines kind n inside tail → Remains kind n new future ls w others
    by_tail [] parts spelled right =
        absurd (no_end w (lines_of after) (next.spelled ∙ ap (λ (x : List ℕ). x ∷ lines_of after) (head_is (line_text l) (end_text w) future others spelled)))
    by_tail (t ∷ ts) parts spelled right =
        let first = head_is (line_text l) (line_text t) future (map line_text ts ++ end_text w ∷ others) spelled in
        let two = next.only t (lines_of after) right.0 (next.spelled ∙ ap (λ (x : List ℕ). x ∷ lines_of after) first) in
        let same : inside ++ t ∷ [] ≡ new = ap (λ x. inside ++ x ∷ []) (sym two.0) ∙ sym added in
        record {
          tail = ts;
          parts = parts ∙ (sym (append_assoc inside (t ∷ []) ts) ∙ ap (λ x. x ++ ts) same);
          spelled = tail_is (line_text l) (line_text t) future (map line_text ts ++ end_text w ∷ others) spelled;
          right = subst (λ (b : List Line). AreLines kind n b ts) same right.1;
        }

pub goes_on : (kind : Kind) (n : ℕ) (inside new : List Line) (rest after : List ℕ) (l : Line) → AreInside kind n inside → IsNext (IsLine kind n inside) rest l after → IsNoEndLine rest → new ≡ inside ++ l ∷ [] → AreInside kind n new
goes_on kind n inside new rest after l so next no_end added = record {
  right = rw added (right_more kind n [] inside l so.right next.fits);
  only = λ future ls w others right whole.
      more_remains kind n inside new rest after future l ls w others added no_end next (so.only (line_text l ∷ future) ls w others right (lines_more inside new future l added ∙ whole));
}

-- ---- the lines inside a block, one after the other

-- the text continues with lines inside a block, and the value is what they make
pub record IsOnTo {O : Type 0} (opens : ℕ → Header → List Line → O → Type 0) (kind : Kind) (n : ℕ) (text : List ℕ) (first : ℕ) (met : MetRuns) (before : O) (rest : List ℕ) (line : ℕ) (met' : MetRuns) (value : O) : Type 0 where
  pub taken : List Line
  pub lines : lines_of text ≡ map line_text taken ++ lines_of rest
  pub room : line + length rest ≤ first + length text
  pub shorter : length rest ≤ length text
  pub some : List Line
  pub some_are : AreMet met' some
  pub opened : (at : ℕ) (h : Header) (inside : List Line) → IsOpenTo opens kind n at h inside met before first → IsOpenTo opens kind n at h (inside ++ taken) met' value line

pub on_none : {O : Type 0} (opens : ℕ → Header → List Line → O → Type 0) (kind : Kind) (n : ℕ) (text : List ℕ) (first : ℕ) (met : MetRuns) (value : O) → (before : List Line) × AreMet met before → IsOnTo opens kind n text first met value text first met value
on_none opens kind n text first met value met_are = record {
  taken = [];
  lines = refl;
  room = omega arith;
  shorter = omega arith;
  some = met_are.0;
  some_are = met_are.1;
  opened = λ at h inside block. subst (λ (x : List Line). IsOpenTo opens kind n at h x met value first) (sym (append-nil inside)) block;
}

open_more : {O : Type 0} (opens : ℕ → Header → List Line → O → Type 0) (kind : Kind) (n : ℕ) (at : ℕ) (h : Header) (inside new : List Line) (rest after : List ℕ) (line : ℕ) (met met' : MetRuns) (value value' : O) (one : IsLineTakenBy opens kind n rest line met met' value value' after) →
    IsOpenTo opens kind n at h inside met value line → IsNoEndLine rest → new ≡ inside ++ one.line ∷ [] → IsOpenTo opens kind n at h new met' value' (line + 1)
open_more opens kind n at h inside new rest after line met met' value value' one so no_end added =
    let here = so.line_is in
    let longer = ap length added in
    record {
      read = goes_on kind n inside new rest after one.line so.read (one.next inside so.met_are) no_end added;
      met_are = met_after met' inside new one.line added (one.adds inside so.met_are);
      opened = subst (λ (x : List Line). opens at h x value') (sym added) (one.opened at h inside (omega (arith, here)) so.opened);
      line_is = omega (arith, here, longer, length-append inside (one.line ∷ []));
    }

pub on_more : {O : Type 0} (opens : ℕ → Header → List Line → O → Type 0) (kind : Kind) (n : ℕ) (text : List ℕ) (first : ℕ) (met met' met'' : MetRuns) (before value value' : O) (rest after : List ℕ) (line : ℕ) →
    IsOnTo opens kind n text first met before rest line met' value → IsLineTakenBy opens kind n rest line met' met'' value value' after → IsNoEndLine rest → IsOnTo opens kind n text first met before after (line + 1) met'' value'
on_more opens kind n text first met met' met'' before value value' rest after line so one no_end =
    let next = one.next so.some so.some_are in
    let less = next.less in
    let room = so.room in
    let shorter = so.shorter in
    record {
      taken = so.taken ++ one.line ∷ [];
      lines = so.lines ∙ (ap (λ x. map line_text so.taken ++ x) next.spelled ∙ lines_more so.taken (so.taken ++ one.line ∷ []) (lines_of after) one.line refl);
      room = omega (arith, room, less);
      shorter = omega (arith, shorter, less);
      some = one.line ∷ so.some;
      some_are = one.adds so.some so.some_are;
      opened = λ at h inside block.
          open_more opens kind n at h (inside ++ so.taken) (inside ++ (so.taken ++ one.line ∷ [])) rest after line met' met'' value value' one (so.opened at h inside block) no_end (sym (append_assoc inside so.taken (one.line ∷ [])));
    }

-- the same of open blocks
pub on_more_in : {O : Type 0} (opens : ℕ → Header → List Line → O → Type 0) (text : List ℕ) (first : ℕ) (old block after : OpenBlock O) (rest behind : List ℕ) (line : ℕ) →
    AreAlike old block × IsOnTo opens old.kind old.behaviours text first old.met old.begun rest line block.met block.begun → TakesLineIn opens rest line block after behind → IsNoEndLine rest →
    AreAlike old after × IsOnTo opens old.kind old.behaviours text first old.met old.begun behind (line + 1) after.met after.begun
on_more_in opens text first old block after rest behind line so one no_end = (
  (one.0.0 ∙ so.0.0, one.0.1 ∙ so.0.1),
  on_more opens old.kind old.behaviours text first old.met block.met after.met old.begun block.begun after.begun rest behind line so.1 (rw (so.0.0, so.0.1) at one.1) no_end,
)

-- or a line that may not come
pub bad_inside : {O : Type 0} (opens : ℕ → Header → List Line → O → Type 0) (kind : Kind) (n : ℕ) (text : List ℕ) (first : ℕ) (met met' : MetRuns) (before value : O) (rest : List ℕ) (line : ℕ) →
    IsOnTo opens kind n text first met before rest line met' value → rest ≢ [] → IsNoLine kind n met' rest → IsNoEndLine rest → (at : ℕ) (h : Header) (inside : List Line) → IsOpenTo opens kind n at h inside met before first → IsBadInside kind n inside at text line
bad_inside opens kind n text first met met' before value rest line so some none no_end at h inside block =
    let bad = some_line rest some in
    let now = so.opened at h inside block in
    record {
      all = inside ++ so.taken;
      taken = so.taken;
      bad_line = bad.0;
      others = bad.1.0;
      parts = refl;
      read = now.read;
      lines = so.lines ∙ ap (λ x. map line_text so.taken ++ x) bad.1.1;
      number = now.line_is;
      no_line = λ l fits same. none (inside ++ so.taken) now.met_are l bad.1.0 fits (bad.1.1 ∙ ap (λ (x : List ℕ). x ∷ bad.1.0) same);
      no_end = λ v same. no_end v bad.1.0 (bad.1.1 ∙ ap (λ (x : List ℕ). x ∷ bad.1.0) same);
    }
