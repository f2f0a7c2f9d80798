use Rattle.tc_explore.{specs.{Inside.Seen.IsNoted, declared.{findings.Findings.Findings, search.Search.Search}}, proofs.{Kept.{covered_more, further_then, kept_further, noted_further, on_ok, placed_seen}, Seeing.{covered_by, longer_self}}}
use Rattle.tc_explore.proofs.search.Search.keep.Goals as goal

pub returns-clause-further : goal.returns-clause-further
returns-clause-further c = on_ok c.place.result (λ p.
    let s = c.args.self.now in
    let g : Findings = record { witnesses = s.found.witnesses; reached = c.reach.new.reached } in
    let now : Search = record { aim = s.aim; met = s.met; found = g } in
    let noted : IsNoted c.args.self.now.met.scripts.now g =
    (c.requires.search.found.0, c.reach.ensures.reached, covered_more s.found.reached.items g.reached.items s.found.witnesses.items c.reach.ensures.more c.requires.search.found.2) in
    let counts = noted_further s g c.requires.search noted (longer_self s.found.witnesses.items) c.reach.ensures.more in
    further_then s now _ counts (kept_further now c.in_ok-calm.calm c.place.new.self counts.search c.in_ok-calm.ensures.state c.reach.ensures.covers p)) c.place.ensures

pub returns-clause-seen : goal.returns-clause-seen
returns-clause-seen c = on_ok c.place.result (λ p.
    let s = c.args.self.now in
    covered_by s.met.scripts.now c.place.new.self c.args.course c.in_ok-calm.calm c.in_ok-calm.ensures.stands (placed_seen s c.in_ok-calm.calm c.place.new.self c.requires.search c.in_ok-calm.ensures.state p)) c.place.ensures
