use Rattle.std.proofs.Common.{◌∙◌, [], ap}
use Rattle.tc_judge.proofs.Lemmas.{answer_of}
use Rattle.tc_program.proofs.listing.listed.Goals as goal

pub returns : goal.returns
returns g c =
    c.silent.ensures ∙ ap (λ out. answer_of out [] 0) c.in_ok-list.ensures
