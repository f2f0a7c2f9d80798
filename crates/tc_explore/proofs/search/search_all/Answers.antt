use Rattle.std.proofs.Common.{rules, ◌<◌, ◌≤◌, ◌∙◌, false, length, subst, arith}
use Rattle.tc_explore.{specs.Found.AreAllMet, proofs.{Keeping.within_opening, Kept.{further_then, met_full, met_of, met_within}, States.{all_told, closed_more}}}
use Rattle.tc_explore.proofs.search.search_all.Goals as goal

pub keep-requires-clause-within : goal.keep-requires-clause-within
keep-requires-clause-within c = within_opening c.args.aim c.in_ok-opening.field-0 c.in_ok-opening.ensures.opening

pub loop-at-preserved : goal.loop-at-preserved
loop-at-preserved c =
    let was = c.loop-at.invariant in
    let is = c.in_ok-expand.ensures in
    let within : c.loop-at.at < length c.loop-at.search.met.states.items = search rules in
    record {
      further = further_then c.keep.new.self c.loop-at.search c.expand.new.self was.further is.further;
      closed = closed_more c.loop-at.search c.expand.new.self c.loop-at.at c.in_ok-course.course c.index.result.now is.further within c.in_ok-course.ensures.entries c.index.ensures was.closed is.closed;
    }

pub returns-clause-complete : goal.returns-clause-complete
returns-clause-complete c whole =
    let s = c.loop-at.search in
    let was = c.loop-at.invariant in
    let is = c.in_ok-keep.ensures in
    let ended : length c.loop-at.search.met.states.items ≤ c.loop-at.at = search rules in
    all_told _ c.keep.new.self s c.in_ok-opening.field-0 c.loop-at.at (further_then _ c.keep.new.self s is.further was.further) was.further was.further.search.met.some c.in_ok-opening.ensures.opening is.seen ended was.closed whole

pub returns-clause-met : goal.returns-clause-met
returns-clause-met c =
    let s = c.loop-at.search in
    let f = c.loop-at.invariant.further in
    rw c.len-2.ensures.len (subst (λ sc. AreAllMet sc c.loop-at.search.found.reached.items (length c.loop-at.search.met.keys.keys)) (f.met.scripts ∙ c.in_ok-keep.ensures.further.met.scripts) (met_of s f.search c.len-2.ensures.unique))

pub returns-clause-within : goal.returns-clause-within
returns-clause-within c =
    let f = c.loop-at.invariant.further in
    let most = met_within false _ c.loop-at.search.met f.search.met in
    omega (arith, most, c.len-2.ensures.len, f.met.limit ∙ c.in_ok-keep.ensures.further.met.limit)

pub returns-clause-full : goal.returns-clause-full
returns-clause-full c part =
    let f = c.loop-at.invariant.further in
    c.len-2.ensures.len ∙ (met_full false _ c.loop-at.search.met f.search.met part ∙ (f.met.limit ∙ c.in_ok-keep.ensures.further.met.limit))
