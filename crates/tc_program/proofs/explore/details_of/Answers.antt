use Rattle.std.proofs.Common.{List, ℕ, rules, subst}
use Rattle.tc_program.specs.Inside.{TellsLocalsIf}
use Rattle.tc_program.proofs.explore.details_of.Goals as goal
use Rattle.tc_program.proofs.explore.details_of.Goals.{then-options+in_ok-append_details, else-options}

pub returns : goal.returns
returns c =
    let o = c.args.options.now in
    let middle = c.append_locals_if.new.out.items in (
      middle,
      subst (λ (b : List ℕ). TellsLocalsIf o.locals o.states c.args.scripts.now b middle) c.new-out.ensures.items c.in_ok-append_locals_if.ensures,
      elim c.if-options.branch [
        | then-options+in_ok-append_details w ↦ search rules
        | else-options w ↦ search rules
      ],
    )
