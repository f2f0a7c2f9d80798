-- The runs of a history, as the text report has them.
use Rattle.std.{proofs.{Common.{ℕ, ◌≡◌, ◌∙◌, ◌+◌, Bool, true, false, Option, Some, List, [], ◌∷◌, ◌++◌, codes, if◌then◌else◌, filter, reverse, refl, ap, add-one}, lemmas.List.{Concat.flat_map-append, append-nil}}, specs.{Fmt.decimal, List.flat_map}}
use Rattle.tc_rules.specs.Prelude.{Comp, Entry, comp_of, is_by, log_if, logs_below, part}
use Rattle.tc_report.specs.Report.{run_text, shown_entry}

-- what is shown of each entry of a run is what is shown of its part
pub part_shown : (b : ℕ) (history : List Entry) → flat_map (λ e. if is_by b e then shown_entry e else []) history ≡ flat_map shown_entry (part history b)
unfolding part
part_shown b [] = refl
part_shown b (e ∷ es) = by (is_by b e) (part_shown b es)
  where
    by : (t : Bool) → flat_map (λ e. if is_by b e then shown_entry e else []) es ≡ flat_map shown_entry (filter (is_by b) es)
        → (if t then shown_entry e else []) ++ flat_map (λ e. if is_by b e then shown_entry e else []) es
        ≡ flat_map shown_entry (if t then e ∷ filter (is_by b) es else filter (is_by b) es)
    by true rest = ap (λ l. shown_entry e ++ l) rest
    by false rest = rest

-- the line of a run
abbrev run_line : ℕ → List ℕ → ℕ → List ℕ
run_line run name comp = codes "run " ++ (decimal run ++ (codes " " ++ (name ++ (codes " on " ++ (decimal comp ++ (10 ∷ []))))))

module _ (names : ℕ → List ℕ) (history : List Entry) (b : ℕ) where
  -- the runs with one more
  pub runs_more : flat_map (run_text names) (logs_below history (b + 1))
      ≡ flat_map (run_text names) (logs_below history b) ++ flat_map (run_text names) (log_if (comp_of (reverse history) b) history b)
  runs_more =
      ap (λ k. flat_map (run_text names) (logs_below history k)) (add-one b)
      ∙ flat_map-append (run_text names) (logs_below history b) (log_if (comp_of (reverse history) b) history b)

  -- a run that was started on this component
  pub run_started : (c : Comp) (o : Option Comp) → o ≡ Some c
      → flat_map (run_text names) (log_if o history b) ≡ run_line b (names b) c.0 ++ flat_map shown_entry (part history b)
  run_started c o is = rw is (append-nil (run_line b (names b) c.0 ++ flat_map shown_entry (part history b)))
