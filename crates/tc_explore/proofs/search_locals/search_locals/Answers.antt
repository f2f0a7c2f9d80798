use Rattle.std.proofs.Common.{rules, ◌<◌, ◌≤◌, ◌∙◌, [], true, length, sym, subst, arith}
use Rattle.tc_rules.specs.Prelude.{past_of}
use Rattle.tc_explore.{specs.{Found.{AllLocalsFound, HasCourses}, Inside.{Locals.{AreLocalsRuns}}}, proofs.{Kept.{met_full, met_within}, LocalsClosed.{all_locals_found, courses_met, locals_more, twin_further}}}
use Rattle.tc_explore.proofs.search_locals.search_locals.Goals as goal

pub loop-at-preserved : goal.loop-at-preserved
loop-at-preserved c =
    let was = c.loop-at.invariant in
    let is = c.in_ok-expand.ensures in
    let f = is.further in
    let within : c.loop-at.at < length c.loop-at.search.met.states.items = search rules in
    record {
      search = f.search;
      scripts = f.met.scripts ∙ was.scripts;
      limit = f.met.limit ∙ was.limit;
      seen = twin_further c.loop-at.search.met c.expand.new.self.met [] f.met was.seen;
      closed = locals_more c.loop-at.search c.expand.new.self c.loop-at.at c.in_ok-course.course c.index.result.now f within c.in_ok-course.ensures.entries c.index.ensures was.closed
          (subst (λ sc. AreLocalsRuns c.expand.new.self (past_of c.in_ok-course.course) (length sc)) (sym f.met.scripts) is.closed);
    }

pub returns-clause-complete : goal.returns-clause-complete
returns-clause-complete c h =
    let z = c.loop-at.search in
    let was = c.loop-at.invariant in
    let ended : length c.loop-at.search.met.states.items ≤ c.loop-at.at = search rules in
    rw c.new-4.ensures (subst (λ sc. AllLocalsFound sc c.loop-at.search.marks.found.items) was.scripts (all_locals_found z was.search (c.ending_of.ensures.whole h) (λ i near. was.closed i (omega (arith, near, ended))) was.seen))

pub returns-clause-met : goal.returns-clause-met
returns-clause-met c =
    let was = c.loop-at.invariant in
    rw c.len-2.ensures.len (subst (λ sc. HasCourses sc (length c.loop-at.search.met.keys.keys)) was.scripts (courses_met c.loop-at.search was.search c.len-2.ensures.unique))

pub returns-clause-within : goal.returns-clause-within
returns-clause-within c =
    let was = c.loop-at.invariant in
    let most = met_within true _ c.loop-at.search.met was.search.met in
    omega (arith, most, c.len-2.ensures.len, was.limit)

pub returns-clause-undecided : goal.returns-clause-undecided
returns-clause-undecided c m h =
    let was = c.loop-at.invariant in
    let part = c.ending_of.ensures.part m h in
    (c.len-2.ensures.len ∙ (met_full true _ c.loop-at.search.met was.search.met part.0 ∙ was.limit), part.1)
