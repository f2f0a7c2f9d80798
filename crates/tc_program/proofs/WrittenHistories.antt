-- Written histories and evidence are legal.
use Rattle.std.{proofs.{Common.{ℕ, ◌≡◌, ◌≢◌, ◌∙◌, ◌+◌, ◌≤◌, Bool, true, false, All, List, [], ◌∷◌, ◌++◌, length, map, reverse, take, refl, ap, sym, subst, arith}, lemmas.{Bool.Decides.nat_tests, List.{Elements.{All-cons, All-head, All-nil, All-tail, All-take}, Folds.list_any-append, length-take}}}, specs.{Prelude.◌==◌, List.{AllZip, flat_map}}}
use Rattle.tc_rules.specs.Prelude.{IsName, Entry, IsLegal, overall, IsOneHistory}
use Rattle.tc_blocks.{specs.{Prelude.{AreEntries, is_about, is_met, AreBlocks, AreEvidence, AreLines, IsHeader, block_lines, format_of, text_of_block}, declared.{block.Block.Block, header.Kind.Kind, line.Line.Line}}, proofs.Lemmas.WrittenEvidence.written_evidence}
use Rattle.tc_report.{specs.{Inside.{case_lines, finished_header, namings}, declared.results.{Finished.Finished, Results.Results}, Prelude.{blocks_text, case_block}}, proofs.Lemmas.Telling.entries_written}
use Rattle.tc_campaign.specs.{Prelude.Outline, Inside.IsReported}
use Rattle.tc_judge.{specs.{Check.{Checks, IsLegalBlock}, Inside.each, Prelude.legal_line}, proofs.Lemmas.{block_line, only_legal}}
use Rattle.tc_program.specs.{Inside.{FitsItsTypes, WasRun, WereRun, legal_case}, WrittenHistories.AreReported}

-- the block of a finished test case, which begins in this line
abbrev pub block_of : Kind → ℕ → Finished → Block
block_of kind line f = record { header = finished_header kind f; first_line = line; lines = case_lines kind f; verdict = f.report.verdict }

-- the line after that block
abbrev pub after : Kind → ℕ → Finished → ℕ
after kind line f = line + length (block_lines (block_of kind line f))

-- the blocks of finished test cases, the first of which begins in this line
abbrev pub blocks_of : Kind → ℕ → List Finished → List Block
blocks_of kind line [] = []
blocks_of kind line (f ∷ fs) = block_of kind line f ∷ blocks_of kind (after kind line f) fs

texts_are : (kind : Kind) (line : ℕ) (fs : List Finished) → flat_map text_of_block (blocks_of kind line fs) ≡ flat_map (case_block kind) fs
texts_are kind line [] = refl
texts_are kind line (f ∷ fs) = ap (λ l. case_block kind f ++ l) (texts_are kind (after kind line f) fs)

are_blocks : (kind : Kind) (line : ℕ) (fs : List Finished) → All (WasRun kind) fs → AreBlocks IsHeader line (blocks_of kind line fs)
are_blocks kind line [] all = tt
are_blocks kind line (f ∷ fs) all =
    let this = All-head (WasRun kind) f fs all in
    (record { header = this.header; inside = this.inside; first = refl }, are_blocks kind (after kind line f) fs (All-tail (WasRun kind) f fs all))

some_blocks : (kind : Kind) (fs : List Finished) → fs ≢ [] → blocks_of kind 1 fs ≢ []
some_blocks kind [] some = absurd (some refl)
some_blocks kind (f ∷ fs) some = λ e. cc

pub evidence_of : (kind : Kind) (r : Results) → WereRun kind r → AreEvidence (blocks_text kind r) (blocks_of kind 1 r.finished)
evidence_of kind r ran =
    let are = written_evidence (blocks_of kind 1 r.finished) (some_blocks kind r.finished ran.some) (are_blocks kind 1 r.finished ran.each) in
    subst (λ (text : List ℕ). AreEvidence text (blocks_of kind 1 r.finished)) (texts_are kind 1 r.finished) are

-- ---- a legal block is found legal, and nothing else

-- the block of a test case that was run
right_of : (kind : Kind) (line : ℕ) (f : Finished) → WasRun kind f → IsLegalBlock (block_of kind line f)
right_of kind line f ran =
    let same = sym (entries_written kind f) in
    record {
      replies = subst (λ (es : List Entry). IsLegal f.report.behaviours (reverse es)) same ran.report.legal;
      verdict = ran.report.verdict ∙ ap (λ (es : List Entry). overall (reverse es)) same;
    }

pub are_right : (kind : Kind) (line : ℕ) (fs : List Finished) → All (WasRun kind) fs → All IsLegalBlock (blocks_of kind line fs)
are_right kind line [] all = All-nil IsLegalBlock
are_right kind line (f ∷ fs) all =
    All-cons IsLegalBlock (block_of kind line f) (blocks_of kind (after kind line f) fs) (right_of kind line f (All-head (WasRun kind) f fs all))
    (are_right kind (after kind line f) fs (All-tail (WasRun kind) f fs all))

same_lines : (kind : Kind) (line : ℕ) (fs : List Finished) → flat_map block_line (blocks_of kind line fs) ≡ flat_map legal_case fs
same_lines kind line [] = refl
same_lines kind line (f ∷ fs) =
    ap (λ (es : List Entry). legal_line f.name (length es) f.report.verdict ++ flat_map block_line (blocks_of kind (after kind line f) fs)) (entries_written kind f)
    ∙ ap (λ l. legal_case f ++ l) (same_lines kind (after kind line f) fs)

-- what is said of these blocks
pub said_of_written : (kind : Kind) (r : Results) (out : List ℕ) (status : ℕ) → WereRun kind r → Checks each (blocks_of kind 1 r.finished) out status
    → (out ≡ flat_map legal_case r.finished) × (status ≡ 0)
said_of_written kind r out status ran checks =
    let two = only_legal (blocks_of kind 1 r.finished) out status (are_right kind 1 r.finished ran.each) checks in
    (two.0 ∙ same_lines kind 1 r.finished, two.1)

-- ---- what the types give

-- the report of the test case is one history
abbrev pub HasHistory : Finished → Type 0
HasHistory f = IsOneHistory f.report

have_histories : (cases : List Outline) (fs : List Finished) → AllZip IsReported cases fs → All HasHistory fs
have_histories [] [] each = All-nil HasHistory
have_histories [] (f ∷ fs) each = absurd each
have_histories (c ∷ cases) [] each = absurd each
have_histories (c ∷ cases) (f ∷ fs) each = All-cons HasHistory f fs each.0.one_history (have_histories cases fs each.1)

entries_inside : (kind : Kind) (n : ℕ) (before : List Line) (es : List Entry) → format_of kind ≡ 2 → AreEntries 2 es → AreLines kind n before (map Line.Entry es)
entries_inside kind n before [] two fit = tt
entries_inside kind n before (e ∷ es) two fit = (rw two fit.0, entries_inside kind n (before ++ Line.Entry e ∷ []) es two fit.1)

-- no run from this one on is met
abbrev AreUnmet : ℕ → List Line → Type 0
AreUnmet run before = (k : ℕ) → run ≤ k → is_met k before ≡ false

unmet_more : (run : ℕ) (name : List ℕ) (before : List Line) → AreUnmet run before → AreUnmet (run + 1) (before ++ Line.Named (record { 0 = run }) name ∷ [])
unmet_more run name before unmet k later =
    let other : (run == k) ≡ false = grind (arith, nat_tests) in
    list_any-append (is_about k) before (Line.Named (record { 0 = run }) name ∷ []) ∙ rw (unmet k (omega (arith, later)), other) refl

namings_inside : (n run : ℕ) (names : List (List ℕ)) (before : List Line) (es : List Entry) → run + length names ≤ n → All IsName names → AreUnmet run before
    → AreEntries 2 es → AreLines Kind.Evidence n before (namings run names ++ map Line.Entry es)
namings_inside n run [] before es few named unmet fit = entries_inside Kind.Evidence n before es refl fit
namings_inside n run (name ∷ names) before es few named unmet fit = (
  (refl, omega (arith, few), All-head IsName name names named, unmet run (omega arith)),
  namings_inside n (run + 1) names (before ++ Line.Named (record { 0 = run }) name ∷ []) es (omega (arith, few)) (All-tail IsName name names named)
      (unmet_more run name before unmet) fit,
)

-- the lines of finished test cases may be inside of a history of format 2, and of evidence
inside_of : (kind : Kind) (f : Finished) → kind ≢ Kind.History1 → FitsItsTypes f → AreLines kind f.report.behaviours [] (case_lines kind f)
inside_of Kind.History1 f other fits = absurd (other refl)
inside_of Kind.History2 f other fits = entries_inside Kind.History2 f.report.behaviours [] f.report.history refl fits.2
inside_of Kind.Evidence f other fits =
    namings_inside f.report.behaviours 0 (take f.report.behaviours f.names) [] f.report.history
    (omega (arith, length-take f.report.behaviours f.names)) (All-take IsName f.report.behaviours f.names fits.1) (λ k later. refl) fits.2

pub reported_were_run : (kind : Kind) (cases : List Outline) (r : Results) → kind ≢ Kind.History1 → All FitsItsTypes r.finished → AreReported cases r → WereRun kind r
reported_were_run kind cases r other fit reported = record {
  some = reported.some;
  each = λ k d within.
      let fits = fit k d within in
      record {
        header = record { name_is = fits.0; few = reported.behaviours k d within; kind_fits = λ one. absurd (other one) };
        inside = inside_of kind _ other fits;
        report = have_histories (take (length r.finished) cases) r.finished reported.reports k d within;
      };
}
