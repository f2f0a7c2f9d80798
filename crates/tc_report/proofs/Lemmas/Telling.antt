-- What was printed of test cases as they finished, test case by test case.
use Rattle.std.{proofs.{Common.{ℕ, ◌≡◌, ◌∙◌, ◌+◌, arith, Bool, true, false, List, [], ◌∷◌, ◌++◌, Option, Some, None, Result, Ok, Err, OnOk, OnErr, codes, filter, if◌then◌else◌, length, refl, sym, ap, ap₂, subst, append_assoc, map, reverse}, lemmas.List.{Concat.flat_map-append, Elements.filter-append, append-nil}}, specs.{Io.KnownBytes.{Appends, Keeps}, List.{AllZip, enumerate_from, flat_map}}}
use Rattle.tc_stream.specs.Prelude.{AppendsPrefix}
use Rattle.tc_blocks.specs.{Prelude.entries_of, declared.{block.Block.Block, header.Kind.Kind, line.Line.Line}}
use Rattle.tc_report.{specs.{Inside.{IsEndedAt, IsOneMore, IsSoFar, after_verdict, again_by, namings, said_with}, Observers.{AreTaken, KeepsTimes}, Progress.{HasTold, AreLinesOf, IsToldBy, again_lines, begun_text, finished_line, finished_text, is_failure, last_line}, Report.tally_of_cases, Blocks.{block_names, name_lines}, InWords.namings_of, Said.{named_in, remarks_from, said_in}, Summary.{IsBlockOf, SummariesOfBlocks, block_summary, summary_of, written_summary}, declared.{fault.OutFault.OutFault, progress.{Progress.Progress, Shown.Shown}, results.{CaseEnd.CaseEnd, Finished.Finished, Tally.Tally}, naming.Naming.Naming, said.{Remark.Remark, Said.Said}}}, proofs.Writing.{appends_both, prefix_behind, prefix_longer}}
use Rattle.tc_rules.{specs.Prelude.{Entry, is_over, local, overall}, proofs.Lemmas.Numbered.comps_numbered}

nothing : (o : Option (List ℕ)) → Appends o o []
nothing None = tt
nothing (Some s) = sym (append-nil s)

kept : (o : Option (List ℕ)) → Keeps o o
kept None = tt
kept (Some s) = refl

-- of no test case nothing is printed, and of none if it is not asked for
pub nothing_of : (tells : Bool) (shown : Bool × List (List ℕ)) (start : Option (List ℕ)) → IsToldBy tells shown start start [] (Ok tt)
nothing_of false shown start = (refl, kept start)
nothing_of true (true, names) start = (false, [], None, refl, nothing start, tt)
nothing_of true (false, names) start = (false, [], None, refl, nothing start, tt)

pub silent : (tells : Bool) (shown : Bool × List (List ℕ)) (start : Option (List ℕ)) (fs : List Finished) → tells ≡ false → IsToldBy tells shown start start fs (Ok tt)
silent tells shown start fs is = subst (λ t. IsToldBy t shown start start fs (Ok tt)) (sym is) (refl, kept start)

-- ---- what is printed, line by line

-- which lines are printed
abbrev pub lines_of : Shown → Bool × List (List ℕ)
lines_of s = (s.only, s.names.now)

-- the next one begins
begins : (shown : Bool × List (List ℕ)) (at : ℕ) (fs : List Finished) (text : List ℕ) → AreLinesOf shown at fs false text
    → AreLinesOf shown at fs true (text ++ begun_text shown (at + length fs))
begins shown at [] text is = let same : at + 0 ≡ at = omega arith in ap (λ l. l ++ begun_text shown (at + 0)) is ∙ ap (begun_text shown) same
begins shown at (f ∷ fs) text (time, rest, is, more) =
    let last = begun_text shown (at + length (f ∷ fs)) in
    let same : (at + 1) + length fs ≡ at + length (f ∷ fs) = omega arith in (
      time,
      rest ++ last,
      ap (λ l. l ++ last) is ∙ append_assoc (begun_text shown at) (finished_text shown at time f ++ rest) last
          ∙ ap (λ l. begun_text shown at ++ l) (append_assoc (finished_text shown at time f) rest last),
      subst (λ n. AreLinesOf shown (at + 1) fs true (rest ++ begun_text shown n)) same (begins shown (at + 1) fs rest more),
    )

-- and finishes
finishes : (shown : Bool × List (List ℕ)) (at : ℕ) (fs : List Finished) (f : Finished) (t : Option (ℕ × ℕ)) (text : List ℕ) → AreLinesOf shown at fs true text
    → AreLinesOf shown at (fs ++ f ∷ []) false (text ++ finished_text shown (at + length fs) t f)
finishes shown at [] f t text is =
    let same : at + 0 ≡ at = omega arith in
    let line = finished_text shown at t f in (
      t,
      [],
      ap (λ n. text ++ finished_text shown n t f) same ∙ ap (λ l. l ++ line) is ∙ ap (λ l. begun_text shown at ++ l) (sym (append-nil line)),
      refl,
    )
finishes shown at (g ∷ fs) f t text (time, rest, is, more) =
    let last = finished_text shown (at + length (g ∷ fs)) t f in
    let same : (at + 1) + length fs ≡ at + length (g ∷ fs) = omega arith in (
      time,
      rest ++ last,
      ap (λ l. l ++ last) is ∙ append_assoc (begun_text shown at) (finished_text shown at time g ++ rest) last
          ∙ ap (λ l. begun_text shown at ++ l) (append_assoc (finished_text shown at time g) rest last),
      subst (λ n. AreLinesOf shown (at + 1) (fs ++ f ∷ []) false (rest ++ finished_text shown n t f)) same (finishes shown (at + 1) fs f t rest more),
    )

-- the lines of those that have failed, one more
failed_more : (fs : List Finished) (f : Finished) → again_lines false (fs ++ f ∷ []) ≡ again_lines false fs ++ again_lines false (f ∷ [])
failed_more fs f =
    ap (flat_map (finished_line (codes "failed:") None)) (filter-append is_failure fs (f ∷ []))
    ∙ flat_map-append (finished_line (codes "failed:") None) (filter is_failure fs) (filter is_failure (f ∷ []))

again_more : (only : Bool) (fs : List Finished) (f : Finished) → again_lines only (fs ++ f ∷ []) ≡ again_lines only fs ++ again_lines only (f ∷ [])
again_more true fs f = refl
again_more false fs f = failed_more fs f

-- of one, it is the line that names it again
pub again_one : (only : Bool) (f : Finished) → again_by only (after_verdict f) f ≡ again_lines only (f ∷ [])
again_one true f = refl
again_one false f = go (is_failure f)
  where
    line : List ℕ
    line = finished_line (codes "failed:") None f

    go : (b : Bool) → (if b then line else []) ≡ flat_map (finished_line (codes "failed:") None) (if b then f ∷ [] else [])
    go true = sym (append-nil line)
    go false = refl

none_again : (only : Bool) → [] ≡ again_lines only []
none_again true = refl
none_again false = refl

-- of no test case nothing is printed
pub so_new : (shown : Bool × List (List ℕ)) (start : Option (List ℕ)) (again : List ℕ) → again ≡ [] → IsSoFar shown start [] start again None (tally_of_cases []) false
so_new shown start again none = (false, [], refl, (refl, refl, nothing start, none ∙ none_again shown.0))

-- what is the same
pub moved : (shown shown' : Bool × List (List ℕ)) (start : Option (List ℕ)) (fs : List Finished) (now : Option (List ℕ)) (again again' : List ℕ) (w w' : Option OutFault) (tally tally' : Tally) (x x' : Bool)
    → shown' ≡ shown → again' ≡ again → w' ≡ w → tally' ≡ tally → x' ≡ x → IsSoFar shown start fs now again w tally x → IsSoFar shown' start fs now again' w' tally' x'
moved shown shown' start fs now again again' w w' tally tally' x x' a b c d e so =
    subst (λ n. IsSoFar n start fs now again' w' tally' x') (sym a) (subst (λ l. IsSoFar shown start fs now l w' tally' x') (sym b)
    (subst (λ v. IsSoFar shown start fs now again v tally' x') (sym c) (subst (λ n. IsSoFar shown start fs now again w n x') (sym d)
    (subst (λ y. IsSoFar shown start fs now again w tally y) (sym e) so))))

-- a line was not printed whole
abbrev pub IsCut : Bool × List (List ℕ) → Option (List ℕ) → List Finished → Option (List ℕ) → Type 0
IsCut shown start fs now = (begun : Bool) × (text : List ℕ) × AreLinesOf shown 0 fs begun text × AppendsPrefix start now text

module _ (shown : Bool × List (List ℕ)) (start : Option (List ℕ)) (fs : List Finished) (now : Option (List ℕ)) (again : List ℕ) (w : Option OutFault) (tally : Tally) (x : Bool) (fault : OutFault) (is : w ≡ Some fault) where
  pub cut_of : IsSoFar shown start fs now again w tally x → IsCut shown start fs now
  cut_of so = subst (λ v. IsSoFar shown start fs now again v tally x) is so

  pub so_of : IsCut shown start fs now → IsSoFar shown start fs now again w tally x
  so_of cut = subst (λ v. IsSoFar shown start fs now again v tally x) (sym is) cut

module _ (shown : Bool × List (List ℕ)) (start now later : Option (List ℕ)) (fs : List Finished) (again : List ℕ) (tally : Tally) where
  next : (b : Bool) (text : List ℕ) → AreLinesOf shown 0 fs b text → tally ≡ tally_of_cases fs → false ≡ b → AreLinesOf shown 0 fs true (text ++ begun_text shown tally.cases)
  next b text is count same =
      let cases : tally.cases ≡ length fs = ap (λ t. t.cases) count in let here : 0 + length fs ≡ tally.cases = omega (arith, cases) in
      subst (λ n. AreLinesOf shown 0 fs true (text ++ begun_text shown n)) here (begins shown 0 fs text (subst (λ b. AreLinesOf shown 0 fs b text) (sym same) is))

  ends : (time : Option (ℕ × ℕ)) → tally ≡ tally_of_cases fs → again ≡ again_lines shown.0 fs → again ++ last_line time tally ≡ again_lines shown.0 fs ++ last_line time (tally_of_cases fs)
  ends time count kept = ap₂ (λ l t. l ++ last_line time t) kept count

  -- a test case begins
  pub so_begun : IsSoFar shown start fs now again None tally false → Appends now later (begun_text shown tally.cases) → IsSoFar shown start fs later again None tally true
  so_begun (b, text, is, (count, same, out, kept)) p =
      (true, text ++ begun_text shown tally.cases, next b text is count same, (count, refl, appends_both start now later text (begun_text shown tally.cases) out p, kept))

  -- or its line is not printed whole
  pub so_cut : IsSoFar shown start fs now again None tally false → AppendsPrefix now later (begun_text shown tally.cases) → IsCut shown start fs later
  so_cut (b, text, is, (count, same, out, kept)) p =
      (true, text ++ begun_text shown tally.cases, next b text is count same, prefix_behind start now later text (begun_text shown tally.cases) out p)

  module _ (f : Finished) (time : Option (ℕ × ℕ)) (more : List ℕ) where
    abbrev line : List ℕ
    line = finished_text shown tally.cases time f

    longer : (b : Bool) (text : List ℕ) → AreLinesOf shown 0 fs b text → tally ≡ tally_of_cases fs → true ≡ b → AreLinesOf shown 0 (fs ++ f ∷ []) false (text ++ line)
    longer b text is count same =
        let cases : tally.cases ≡ length fs = ap (λ t. t.cases) count in let here : 0 + length fs ≡ tally.cases = omega (arith, cases) in
        subst (λ n. AreLinesOf shown 0 (fs ++ f ∷ []) false (text ++ finished_text shown n time f)) here
        (finishes shown 0 fs f time text (subst (λ b. AreLinesOf shown 0 fs b text) (sym same) is))

    -- it is reported
    pub so_told : (one : Tally) → IsOneMore tally f one → IsSoFar shown start fs now again None tally true → Appends now later line → more ≡ again ++ again_lines shown.0 (f ∷ [])
        → IsSoFar shown start (fs ++ f ∷ []) later more None one false
    so_told one next (b, text, is, (count, same, out, kept)) p add =
        let again_all = add ∙ ap (λ l. l ++ again_lines shown.0 (f ∷ [])) kept ∙ sym (again_more shown.0 fs f) in
        (false, text ++ line, longer b text is count same, (next fs count, refl, appends_both start now later text line out p, again_all))

    -- or its line is not printed whole
    pub so_part : IsSoFar shown start fs now again None tally true → AppendsPrefix now later line → IsCut shown start (fs ++ f ∷ []) later
    so_part (b, text, is, (count, same, out, kept)) p = (false, text ++ line, longer b text is count same, prefix_behind start now later text line out p)

  -- those that have failed are printed again, and how many there were
  pub so_ended : (x : Bool) (time : Option (ℕ × ℕ)) (answer : Result (Unit {0}) OutFault) → IsSoFar shown start fs now again None tally x
      → OnOk answer (Appends now later (again ++ last_line time tally)) → OnErr answer (AppendsPrefix now later (again ++ last_line time tally))
      → IsToldBy true shown start later fs answer
  so_ended x time (Ok done) (b, text, is, (count, same, out, kept)) all part =
      (b, text, time, is, subst (λ l. Appends start later (text ++ l)) (ends time count kept) (appends_both start now later text (again ++ last_line time tally) out all), tt)
  so_ended x time (Err fault) (b, text, is, (count, same, out, kept)) all part =
      (b, text, time, is, tt, subst (λ l. AppendsPrefix start later (text ++ l)) (ends time count kept) (prefix_behind start now later text (again ++ last_line time tally) out part))

module _ (shown : Bool × List (List ℕ)) (start now : Option (List ℕ)) (fs : List Finished) where
  -- nothing more is printed
  pub lost : (f : Finished) → IsCut shown start fs now → IsCut shown start (fs ++ f ∷ []) now
  lost f (b, text, is, part) = go b is
    where
      next : List ℕ
      next = begun_text shown (0 + length fs)

      line : List ℕ
      line = finished_text shown (0 + length fs) None f

      go : (b : Bool) → AreLinesOf shown 0 fs b text → IsCut shown start (fs ++ f ∷ []) now
      go true is = (false, text ++ line, finishes shown 0 fs f None text is, prefix_longer start now text line part)
      go false is = (
        false,
        (text ++ next) ++ line,
        finishes shown 0 fs f None (text ++ next) (begins shown 0 fs text is),
        prefix_longer start now (text ++ next) line (prefix_longer start now text next part),
      )

  pub cut_told : (fault : OutFault) → IsCut shown start fs now → IsToldBy true shown start now fs (Err fault)
  cut_told fault (b, text, is, part) = (b, text, None, is, tt, prefix_longer start now text (again_lines shown.0 fs ++ last_line None (tally_of_cases fs)) part)

module _ {O E C : Type 0} (contents : E → Option (List ℕ)) (takes : O → Finished → O → Bool → Type 0) where
  -- what a test case does to a `Progress`, and to the observer that it passes it on to
  abbrev pub Takes : Progress O E C → Finished → Progress O E C → Bool → Type 0
  Takes before f after goes_on =
      takes before.observer.now f after.observer.now goes_on
      × ((start : Option (List ℕ)) (fs : List Finished) → HasTold contents start fs before → HasTold contents start (fs ++ f ∷ []) after)
      × KeepsTimes before.watch.now.cases 1 after.watch.now.cases × (after.watch.ghost_name ≡ before.watch.ghost_name)
      × (after.observer.ghost_name ≡ before.observer.ghost_name) × (after.writer.ghost_name ≡ before.writer.ghost_name)
      × (after.failed.ghost_name ≡ before.failed.ghost_name) × (after.shown ≡ before.shown)

  -- the other observer and the writers are the same ones, and the same lines are printed
  abbrev pub AreSame : Progress O E C → Progress O E C → Type 0
  AreSame before after =
      (after.watch.ghost_name ≡ before.watch.ghost_name) × (after.observer.ghost_name ≡ before.observer.ghost_name)
      × (after.writer.ghost_name ≡ before.writer.ghost_name) × (after.failed.ghost_name ≡ before.failed.ghost_name) × (after.shown ≡ before.shown)

  -- the test cases that were taken were reported and passed on
  pub all_told : (start : Option (List ℕ)) (done fs : List Finished) (before after : Progress O E C) → HasTold contents start done before
      → AreTaken Takes fs before after
      → AreTaken takes fs before.observer.now after.observer.now × HasTold contents start (done ++ fs) after × AreSame before after
  all_told start done [] before after at same = (
    ap (λ p. p.observer.now) same,
    subst (λ l. HasTold contents start l after) (sym (append-nil done)) (subst (HasTold contents start done) (sym same) at),
    (ap (λ p. p.watch.ghost_name) same, ap (λ p. p.observer.ghost_name) same, ap (λ p. p.writer.ghost_name) same, ap (λ p. p.failed.ghost_name) same, ap (λ p. p.shown) same),
  )
  all_told start done (f ∷ fs) before after at taken =
      let one = taken.1 in
      let rest = all_told start (done ++ f ∷ []) fs taken.0 after (one.1 start done at) taken.2 in (
        (taken.0.observer.now, one.0, rest.0),
        subst (λ l. HasTold contents start l after) (append_assoc done (f ∷ []) fs) rest.1,
        (rest.2.0 ∙ one.3, rest.2.1 ∙ one.4, rest.2.2 ∙ one.5, rest.2.3 ∙ one.6, rest.2.4 ∙ one.7),
      )

  -- and so was the last, if the other observer has ended the campaign
  pub ended_told : (start : Option (List ℕ)) (fs : List Finished) (before after : Progress O E C) → HasTold contents start [] before
      → IsEndedAt Takes fs before after
      → IsEndedAt takes fs before.observer.now after.observer.now × HasTold contents start fs after × AreSame before after
  ended_told start fs before after at ended =
      let others = all_told start [] ended.others before ended.between at ended.each in
      let one = ended.at_last in (
        record { others = ended.others; last = ended.last; all = ended.all; between = ended.between.observer.now; each = others.0; at_last = one.0 },
        subst (λ l. HasTold contents start l after) (sym ended.all) (one.1 start ended.others others.1),
        (one.3 ∙ others.2.0, one.4 ∙ others.2.1, one.5 ∙ others.2.2, one.6 ∙ others.2.3, one.7 ∙ others.2.4),
      )

named_entries : (es : List Entry) → flat_map named_in (map Line.Entry es) ≡ []
named_entries [] = refl
named_entries (e ∷ es) = named_entries es

named_all : (run : ℕ) (names : List (List ℕ)) (es : List Entry) → flat_map named_in (namings run names ++ map Line.Entry es) ≡ map (λ p. record { run = p.0; name = p.1 }) (enumerate_from run names)
named_all run [] es = named_entries es
named_all run (n ∷ ns) es = ap (λ (l : List Naming). record { run = run; name = n } ∷ l) (named_all (run + 1) ns es)

entries_silent : (at : ℕ) (es : List Entry) → remarks_from at (map Line.Entry es) ≡ []
entries_silent at [] = refl
entries_silent at (e ∷ es) = entries_silent (at + 1) es

no_remarks : (at run : ℕ) (names : List (List ℕ)) (es : List Entry) → remarks_from at (namings run names ++ map Line.Entry es) ≡ []
no_remarks at run [] es = entries_silent at es
no_remarks at run (n ∷ ns) es = no_remarks at (run + 1) ns es

only_entries : (es : List Entry) → entries_of (map Line.Entry es) ≡ es
only_entries [] = refl
only_entries (e ∷ es) = ap (λ (l : List Entry). e ∷ l) (only_entries es)

after_namings : (run : ℕ) (names : List (List ℕ)) (es : List Entry) → entries_of (namings run names ++ map Line.Entry es) ≡ es
after_namings run [] es = only_entries es
after_namings run (n ∷ ns) es = after_namings (run + 1) ns es

abbrev said_mk : List Naming → List Remark → Said
said_mk names remarks = record { names = names; remarks = remarks }

-- what a block that a run writes says
said_so : (names : List (List ℕ)) (es : List Entry) → said_in (name_lines names ++ map Line.Entry es) ≡ said_mk (namings_of names) []
said_so names es = ap₂ said_mk (named_all 0 names es) (no_remarks 0 0 names es)

-- the entries of such a block are those of the test case
pub entries_written : (kind : Kind) (f : Finished) → entries_of (name_lines (block_names kind f) ++ map Line.Entry f.report.history) ≡ f.report.history
entries_written kind f = after_namings 0 (block_names kind f) f.report.history

pub one_same : (kind : Kind) (f : Finished) (b : Block) → IsBlockOf kind f b → block_summary b ≡ written_summary kind f
one_same kind f b is =
    let past = reverse f.report.history in
    let ended : (if is_over past then CaseEnd.Over (overall past) else CaseEnd.Unfinished) ≡ CaseEnd.Over f.report.verdict = rw (is.report.over, is.report.verdict) refl in
    let said_of = said_mk (namings_of (block_names kind f)) [] in
    let said = ap said_in is.lines ∙ said_so (block_names kind f) f.report.history in
    let entries = ap entries_of is.lines ∙ entries_written kind f in
    ap (λ (x : Said). summary_of b.header.name b.header.behaviours (entries_of b.lines) x) said
    ∙ (ap (λ (es : List Entry). summary_of b.header.name b.header.behaviours es said_of) entries
    ∙ (ap₂ (λ (name : List ℕ) (n : ℕ). summary_of name n f.report.history said_of) is.name is.behaviours ∙ rw (is.report.locals ∙ ap (map (local past)) (sym (comps_numbered f.report.behaviours past is.report.legal)), ended) refl))

all_same : (kind : Kind) (fs : List Finished) (bs : List Block) → AllZip (IsBlockOf kind) fs bs → map block_summary bs ≡ map (written_summary kind) fs
all_same kind [] [] each = refl
all_same kind [] (b ∷ bs) each = absurd each
all_same kind (f ∷ fs) [] each = absurd each
all_same kind (f ∷ fs) (b ∷ bs) each = rw (one_same kind f b each.0, all_same kind fs bs each.1) refl

pub summaries_of_blocks : SummariesOfBlocks
summaries_of_blocks kind r bs each = all_same kind r.finished bs each

-- ---- what is said next to entries, and one line more

remarks_more : (at : ℕ) (ls : List Line) (l : Line) → remarks_from at (ls ++ l ∷ []) ≡ remarks_from at ls ++ remarks_from (at + length (entries_of ls)) (l ∷ [])
remarks_more at [] l = let same : at ≡ at + 0 = omega arith in ap (λ k. remarks_from k (l ∷ [])) same
remarks_more at (Line.Entry e ∷ ls) l =
    let same : (at + 1) + length (entries_of ls) ≡ at + length (e ∷ entries_of ls) = omega arith in
    remarks_more (at + 1) ls l ∙ ap (λ k. remarks_from (at + 1) ls ++ remarks_from k (l ∷ [])) same
remarks_more at (Line.Named run name ∷ ls) l = remarks_more at ls l
remarks_more at (Line.Remark run said ∷ ls) l = ap (λ (rs : List Remark). record { at = at; run = run; sentence = said } ∷ rs) (remarks_more at ls l)
remarks_more at (Line.Refused run said ∷ ls) l = remarks_more at ls l

named_last : (ls : List Line) (l : Line) → flat_map named_in (ls ++ l ∷ []) ≡ flat_map named_in ls ++ named_in l
named_last ls l = flat_map-append named_in ls (l ∷ []) ∙ ap (λ (x : List Naming). flat_map named_in ls ++ x) (append-nil (named_in l))

pub said_more : (ls : List Line) (l : Line) → said_in (ls ++ l ∷ []) ≡ said_with (said_in ls) (length (entries_of ls)) l
said_more ls l =
    let same : 0 + length (entries_of ls) ≡ length (entries_of ls) = omega arith in
    ap₂ said_mk (named_last ls l) (remarks_more 0 ls l ∙ ap (λ k. remarks_from 0 ls ++ remarks_from k (l ∷ [])) same)

-- an entry says nothing next to it
pub entry_says : (s : Said) (at : ℕ) (e : Entry) → s ≡ said_with s at (Line.Entry e)
entry_says s at e = ap₂ said_mk (sym (append-nil s.names)) (sym (append-nil s.remarks))
