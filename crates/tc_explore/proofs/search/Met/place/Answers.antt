use Rattle.std.{specs.{Cmp.Lexicographic.pointwise, List.list_any}, proofs.Common.{rules, ℕ, List, refl, inl, ◌≡◌, ◌∷◌, ◌++◌, ◌∙◌, ◌<◌, [], true, false, nat_eq, length, reverse, ap, sym, arith, length-append}}
use Rattle.tc_rules.specs.Prelude.{past_of}
use Rattle.tc_explore.{specs.Inside.Twins.{key_of}, proofs.{Keys.{key_found, keyed_more}, Kept.with_one, Seeing.get_last}}
use Rattle.tc_explore.proofs.search.Met.place.Goals as goal

pub returns-then-contains : goal.returns-then-contains
returns-then-contains c = record {
  scripts = refl;
  limit = refl;
  states = inl refl;
  within = λ h. h;
  whole = λ h. h;
  full = inl;
  keyed = λ h. h;
  known = λ keyed h.
      let of = key_of c.args.all (length c.args.self.now.scripts.now) in
      let there : list_any (λ x. pointwise nat_eq c.in_ok-key.key.items x.items) c.args.self.now.keys.keys ≡ true = search rules in
      let f = key_found (λ x. x.items) (λ u. of (past_of u)) c.in_ok-key.key.items c.args.self.now.keys.keys c.args.self.now.states.items keyed there in
      (f.0, f.1, f.2, sym c.in_ok-key.ensures ∙ f.3);
}

pub returns : goal.returns
returns c =
    let of = key_of c.args.all (length c.args.self.now.scripts.now) in
    let ks = c.args.self.now.keys.keys in
    let states = c.args.self.now.states.items in
    let kept = c.in_ok-kept.kept in
    let past = ap of (sym (ap reverse c.in_ok-kept.ensures.entries)) in
    let room : length c.args.self.now.states.items < c.args.self.now.limit = search rules in
    let other : list_any (λ x. pointwise nat_eq c.in_ok-key.key.items x.items) c.args.self.now.keys.keys ≡ false = search rules in
    let new : list_any (λ x. pointwise nat_eq c.shrink_to_fit.new.self.items x.items) c.args.self.now.keys.keys ≡ false =
    ap (λ (k : List ℕ). list_any (λ x. pointwise nat_eq k x.items) c.args.self.now.keys.keys) c.shrink_to_fit.ensures.items ∙ other in
    let keys : c.insert.new.self.keys ≡ c.args.self.now.keys.keys ++ c.shrink_to_fit.new.self ∷ [] = c.in_ok-insert.ensures.keys ∙ rw new refl in
    record {
      scripts = refl;
      limit = refl;
      states = with_one states c.push.new.self.items c.args.course.now kept c.in_ok-kept.ensures.behaviours c.in_ok-kept.ensures.entries c.in_ok-push.ensures.items;
      within = λ h. omega (arith, room, ap length c.in_ok-push.ensures.items, length-append states (kept ∷ []));
      whole = λ h. h;
      full = inl;
      keyed = λ keyed. rw (keys, c.in_ok-push.ensures.items) (keyed_more (λ k. k.items) (λ t. of (past_of t)) ks states c.shrink_to_fit.new.self kept keyed (c.shrink_to_fit.ensures.items ∙ (c.in_ok-key.ensures ∙ past)));
      known = λ keyed h. rw c.in_ok-push.ensures.items (length states, kept, get_last states kept, past);
    }
