-- The call that decided the verdict of a test case, and its caller.
use Rattle.std.specs.{Prelude.{ℕ, ◌==◌, nat_lt, if◌then◌else◌, Option, None, List, [], ◌++◌, codes, length, reverse, slice_get, take}, List.flat_map, Option.{option_and_then, option_map, option_map_or}}
use Rattle.tc_rules.specs.Prelude.{level_of, Comp, Entry, deciding, comp_of, part}
use Rattle.tc_report.specs.{Meaning.{meaning_text, started_before}, InWords.{component_in, named_call, run_in}, Said.reasons, declared.{cause.Cause.Cause, naming.Names.Names, results.CaseEnd.CaseEnd, said.Remark.Remark}}

-- The entry at this place of a history with these remarks: the component of its run, the entries of the run, how many of
-- them come before, and what the run said next to it. A run that was started before is there if it gave the entry its error.
abbrev pub cause_by : List Remark → List Entry → ℕ → Entry → Cause
cause_by remarks history at e = record {
  entry = e;
  comp = comp_of (reverse history) e.caller.0;
  log = part history e.caller.0;
  before = length (part (take at history) e.caller.0);
  said = reasons remarks history at e.caller.0;
  again = started_before (reverse (take at history)) e.op e.reply;
}

-- what decided the verdict of a test case with this end: nothing if it is not over, and nothing if its verdict is none or pass
abbrev pub cause_of : CaseEnd → List Remark → List Entry → Option Cause
cause_of (CaseEnd.Over v) remarks history =
    if nat_lt 1 (level_of v) then option_and_then (λ at. option_map (cause_by remarks history at) (slice_get history at)) (deciding (reverse history)) else None
cause_of ending remarks history = None

-- what decided the verdict: the run, its component, if it is on one, the call, what its error means, and what was said right before
-- and right after it
unfoldable pub decided_text : Names → Cause → List ℕ
decided_text names c =
    let on = λ (k : Comp). (if k.0 == 0 then codes " on " else codes " on component ") ++ component_in names k.0 in
    codes "run " ++ (run_in names c.entry.caller.0 ++ (option_map_or on c.comp [] ++ (codes ": " ++ (named_call names c.entry.op c.entry.reply
    ++ (meaning_text names c.again c.entry.reply ++ flat_map (λ s. codes ": \"" ++ (s ++ codes "\"")) c.said)))))
