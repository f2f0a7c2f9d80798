use Rattle.std.proofs.Common.{rules, ◌≡◌, true, None, Some, arith}
use Rattle.tc_explore.{specs.Inside.Seen.next_aim, proofs.{Kept.{met_max, most_of}, NextAim.{above_all, above_next}}}
use Rattle.tc_explore.proofs.aims.search_verdicts.Goals as goal

pub loop-searched-preserved : goal.loop-searched-preserved
loop-searched-preserved c =
    let was = c.loop-searched.invariant in
    let s = c.in_ok-searched.searched in
    let now = c.in_ok-searched.ensures in
    let whole : c.in_ok-searched.searched.is_whole ≡ true = search rules in
    let is : Some c.in-Some.better ≡ next_aim c.in_ok-searched.searched.found.witnesses.items c.loop-searched.aim = search rules in
    let most = most_of c.loop-searched.states s.states c.max-states.result c.max-states.ensures in
    record {
      noted = now.found;
      above = above_next c.args.scripts.now c.loop-searched.found.witnesses.items s.found.witnesses.items c.loop-searched.aim c.in-Some.better now.more_found was.above (now.complete whole) is;
      met = met_max c.args.scripts.now c.loop-searched.found.reached.items s.found.reached.items c.loop-searched.states s.states c.max-states.result most now.more was.met now.met;
      within = omega (arith, most, was.within, now.within);
    }

pub returns-in-None-clause-searched : goal.returns-in-None-clause-searched
returns-in-None-clause-searched c =
    let was = c.loop-searched.invariant in
    let s = c.in_ok-searched.searched in
    let now = c.in_ok-searched.ensures in
    let whole : c.in_ok-searched.searched.is_whole ≡ true = search rules in
    let is : None ≡ next_aim c.in_ok-searched.searched.found.witnesses.items c.loop-searched.aim = search rules in
    let most = most_of c.loop-searched.states s.states c.max-states.result c.max-states.ensures in
    record {
      noted = now.found;
      met = met_max c.args.scripts.now c.loop-searched.found.reached.items s.found.reached.items c.loop-searched.states s.states c.max-states.result most now.more was.met now.met;
      complete = λ h. above_all c.args.scripts.now c.loop-searched.found.witnesses.items s.found.witnesses.items c.loop-searched.aim now.more_found was.above (now.complete whole) is;
      within = omega (arith, most, was.within, now.within);
      full = λ h. absurd cc;
    }
