-- What the table keeps next to its history determines every reply: two histories that keep the same are answered alike.
use Rattle.std.{proofs.Common.{ℕ, ◌≡◌, ◌&&◌, ◌||◌, not, Bool, true, false, Option, Some, None, is_some, if◌then◌else◌, List, [], ◌∷◌, length, drop, refl, ap, ◌∙◌}, specs.List.{list_any, list_all}}
use Rattle.tc_entry.specs.declared.{comp.Comp.Comp, entry.Entry.Entry, op.Op.Op, op.Target.Target, phase.Phase.Phase, reply.Reply.Reply}
use Rattle.tc_rules.{specs.{Answers.{answer, is_active, is_run_of, plain_answer}, Inside.Words.{is_active_on, local_reply, waits_in_vain}, Faults.{components, fault, names, special_fault, start_fault}, History.{comp_of, comps, ptcs}, Inside.Kept.{run_of, state_of}, Local.local, Phases.{is_excused, last_run, phase}, Status.{alive, done, is_done, is_killed, is_running, killed, running}, Waiting.{holds, is_still, is_stuck, waiting}, declared.awaited.Awaited.Awaited, declared.component_state.ComponentState.ComponentState, declared.run_state.RunState.RunState}, proofs.Lemmas.Keeping.all_exist_same}

-- two histories of which the same is known
pub record IsSame (p q : List Entry) : Type 0 where
  pub comps_same : comps p ≡ comps q
  pub state_same : (c : ℕ) → state_of p c ≡ state_of q c
  pub run_same : (b : ℕ) → run_of p b ≡ run_of q b

any_same : {A : Type 0} (f g : A → Bool) (xs : List A) → ((x : A) → f x ≡ g x) → list_any f xs ≡ list_any g xs
any_same f g [] h = refl
any_same f g (x ∷ xs) h = rw (h x, any_same f g xs h)

all_same : {A : Type 0} (f g : A → Bool) (xs : List A) → ((x : A) → f x ≡ g x) → list_all f xs ≡ list_all g xs
all_same f g [] h = refl
all_same f g (x ∷ xs) h = rw (h x, all_same f g xs h)

masked_same : (a a' r r' x x' : Bool) → a ≡ a' → r ≡ r' → (a && x) ≡ (a' && x') → (not a || r || x) ≡ (not a' || r' || x')
masked_same true true r r' x x' h e f = rw (e, f)
masked_same false false r r' x x' h e f = refl
masked_same true false r r' x x' h e f = absurd cc
masked_same false true r r' x x' h e f = absurd cc

module _ {p q : List Entry} where
  pub phase_same : IsSame p q → (c : ℕ) → phase p c ≡ phase q c
  phase_same s c = ap (λ (t : ComponentState). t.phase) (s.state_same c)

  local_same : IsSame p q → (c : ℕ) → local p c ≡ local q c
  local_same s c = ap (λ (t : ComponentState). t.local) (s.state_same c)

  pub comp_same : IsSame p q → (b : ℕ) → comp_of p b ≡ comp_of q b
  comp_same s b = ap (λ (t : RunState). t.comp) (s.run_same b)

  pub waiting_same : IsSame p q → (b : ℕ) → waiting p b ≡ waiting q b
  waiting_same s b = ap (λ (t : RunState). t.waiting) (s.run_same b)

  ptcs_same : IsSame p q → ptcs p ≡ ptcs q
  ptcs_same s = ap (drop 1) s.comps_same

  any_of : IsSame p q → (g : Phase → Bool) → list_any (λ c. g (phase p c)) (ptcs p) ≡ list_any (λ c. g (phase q c)) (ptcs q)
  any_of s g = any_same _ _ (ptcs p) (λ c. ap g (phase_same s c)) ∙ ap (list_any (λ c. g (phase q c))) (ptcs_same s)

  all_of : IsSame p q → (g : Phase → Bool) → list_all (λ c. g (phase p c)) (ptcs p) ≡ list_all (λ c. g (phase q c)) (ptcs q)
  all_of s g = all_same _ _ (ptcs p) (λ c. ap g (phase_same s c)) ∙ ap (list_all (λ c. g (phase q c))) (ptcs_same s)

  done_same : IsSame p q → (t : Target) → done p t ≡ done q t
  unfolding done
  done_same s (Target.One c) = ap is_done (phase_same s c.0)
  done_same s Target.Any = any_of s is_done
  done_same s Target.All = all_of s (λ ph. not (is_running ph))

  killed_same : IsSame p q → (t : Target) → killed p t ≡ killed q t
  unfolding killed
  killed_same s (Target.One c) = ap is_killed (phase_same s c.0)
  killed_same s Target.Any = any_of s is_killed
  killed_same s Target.All = all_of s is_killed

  alive_same : IsSame p q → (t : Target) → alive p t ≡ alive q t
  unfolding alive
  alive_same s (Target.One c) = ap (λ ph. not (is_killed ph)) (phase_same s c.0)
  alive_same s Target.Any = any_of s (λ ph. not (is_killed ph))
  alive_same s Target.All = all_of s (λ ph. not (is_killed ph))

  holds_same : IsSame p q → (a : Awaited) → holds p a ≡ holds q a
  unfolding holds
  holds_same s a = rw (done_same s a.target, killed_same s a.target)

  in_vain_same : IsSame p q → (o : Option Awaited) → waits_in_vain p o ≡ waits_in_vain q o
  in_vain_same s None = refl
  in_vain_same s (Some a) = ap not (holds_same s a)

  still_same : IsSame p q → (ph : Phase) → is_still p ph ≡ is_still q ph
  still_same s (Phase.Running run) = ap (waits_in_vain p) (waiting_same s run.0) ∙ in_vain_same s (waiting q run.0)
  still_same s _ = refl

  stuck_same : IsSame p q → is_stuck p ≡ is_stuck q
  unfolding is_stuck
  stuck_same s =
      all_same _ _ (comps p) (λ c. ap (is_still p) (phase_same s c) ∙ still_same s (phase q c))
      ∙ ap (list_all (λ c. is_still q (phase q c))) s.comps_same

  active_on_same : IsSame p q → (b : ℕ) (o : Option Comp) → is_active_on p b o ≡ is_active_on q b o
  active_on_same s b None = refl
  active_on_same s b (Some c) = ap (is_run_of b) (phase_same s c.0)

  active_same : IsSame p q → (b : ℕ) → is_active p b ≡ is_active q b
  unfolding is_active
  active_same s b = ap (is_active_on p b) (comp_same s b) ∙ active_on_same s b (comp_of q b)

  start_same : IsSame p q → (n c b : ℕ) → start_fault n p c b ≡ start_fault n q c b
  unfolding start_fault
  start_same s n c b = rw (phase_same s c, comp_same s b)

  group_running_same : IsSame p q → list_all (λ c. not (is_some (last_run p c)) || is_running (phase p c) || is_excused p c) (ptcs p) ≡ list_all (λ c. not (is_some (last_run q c)) || is_running (phase q c) || is_excused q c) (ptcs q)
  group_running_same s =
      all_same _ _ (ptcs p) (λ c. masked_same (is_some (last_run p c)) (is_some (last_run q c)) (is_running (phase p c)) (is_running (phase q c)) (is_excused p c) (is_excused q c)
      (ap (λ (t : ComponentState). is_some t.last) (s.state_same c)) (ap is_running (phase_same s c)) (ap (λ (t : ComponentState). t.excused) (s.state_same c)))
      ∙ ap (list_all (λ c. not (is_some (last_run q c)) || is_running (phase q c) || is_excused q c)) (ptcs_same s)

  running_same : IsSame p q → (t : Target) → running p t ≡ running q t
  unfolding running
  running_same s (Target.One c) = ap is_running (phase_same s c.0)
  running_same s Target.Any = any_of s is_running
  running_same s Target.All = group_running_same s

  components_same : IsSame p q → components p ≡ components q
  unfolding components
  components_same s = ap length s.comps_same

  special_same : IsSame p q → (n : ℕ) (op : Op) → special_fault n p op ≡ special_fault n q op
  special_same s n (Op.Create alive name) = rw (components_same s)
  special_same s n (Op.Start c run args) = start_same s n c.0 run.0
  special_same s n _ = refl

  fault_same : IsSame p q → (n b : ℕ) (op : Op) → fault n p b op ≡ fault n q b op
  unfolding fault
  fault_same s n b op = rw (all_exist_same p q (names op) s.comps_same, special_same s n op)

  local_reply_same : IsSame p q → (o : Option Comp) → local_reply p o ≡ local_reply q o
  local_reply_same s None = refl
  local_reply_same s (Some c) = ap Reply.Local (local_same s c.0)

  plain_same : IsSame p q → (b : ℕ) (op : Op) → plain_answer p b op ≡ plain_answer q b op
  plain_same s b (Op.Create alive name) = ap (λ k. Reply.Made (record { 0 = k })) (components_same s)
  plain_same s b (Op.Running t) = ap Reply.Answer (running_same s t)
  plain_same s b (Op.Alive t) = ap Reply.Answer (alive_same s t)
  plain_same s b (Op.Done t) = ap Reply.Answer (done_same s t)
  plain_same s b (Op.Killed t) = ap Reply.Answer (killed_same s t)
  plain_same s b (Op.Wait k t) = ap (λ h. if h then Reply.Matched else Reply.Parked) (holds_same s (record { killed = k; target = t }))
  plain_same s b (Op.Wake k t) = rw (holds_same s (record { killed = k; target = t }), stuck_same s)
  plain_same s b Op.GetVerdict = ap (local_reply p) (comp_same s b) ∙ local_reply_same s (comp_of q b)
  plain_same s b _ = refl

  -- the same call is answered alike
  pub answer_same : IsSame p q → (n b : ℕ) (op : Op) → answer n p b op ≡ answer n q b op
  unfolding answer
  answer_same s n b op = rw (active_same s b, fault_same s n b op, plain_same s b op)
