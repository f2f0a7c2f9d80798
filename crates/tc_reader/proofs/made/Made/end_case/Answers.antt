use Rattle.std.proofs.Common.{rules, ◌∙◌}
use Rattle.tc_reader.{specs.Inside.{all_filled, started_of}, proofs.Making.{case_finished, made_scripts}}
use Rattle.tc_reader.proofs.made.Made.end_case.Goals as goal

pub case_of-case-requires-clause-scripts : goal.case_of-case-requires-clause-scripts
case_of-case-requires-clause-scripts c =
    made_scripts c.args.heads.now (started_of c.args.starts.now) c.args.self.now
    (record { done = c.self.inside.done.items; case = c.self.inside.case; drafts = c.self.inside.drafts.items; current = c.self.inside.current }) c.in-Some.name
    (all_filled c.args.heads.now c.replace-drafts.result.items (started_of c.args.starts.now)) (c.self.view_is ∙ c.in_ok-end_behaviour.ensures) (search rules) (search rules) c.requires.scripts

pub returns-in_ok-push_back-in-Some : goal.returns-in_ok-push_back-in-Some
returns-in_ok-push_back-in-Some c =
    case_finished c.args.heads.now (started_of c.args.starts.now) c.args.self.now
    (record { done = c.self.inside.done.items; case = c.self.inside.case; drafts = c.self.inside.drafts.items; current = c.self.inside.current }) c.in-Some.name
    c.case_of-case.result _ c.push_back.new.self.items c.take.new.self (c.self.view_is ∙ c.in_ok-end_behaviour.ensures) (search rules) (search rules)
    c.in_ok-push_back-in-Some.ensures.items (search rules) (search rules)
