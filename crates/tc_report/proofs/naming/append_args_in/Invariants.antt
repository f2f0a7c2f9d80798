use Rattle.std.{proofs.Common.{◌≡◌, ◌++◌, codes, take}, specs.List.flat_map}
use Rattle.tc_rules.specs.Prelude.{Comp}
use Rattle.tc_report.specs.InWords.{component_in}
use Rattle.tc_report.proofs.naming.append_args_in.Given as goal

abbrev pub invariant-loop-comp : goal.invariant-loop-comp
invariant-loop-comp l =
    l.out.items ≡ l.fn.out.items ++ (codes " with" ++ flat_map (λ (a : Comp). codes " " ++ component_in l.names a.0) (take l.comp-index l.comps))
