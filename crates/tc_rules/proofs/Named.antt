-- The names of components say nothing to the table: a history without them is answered alike.
use Rattle.std.proofs.Common.{ℕ, ◌≡◌, ◌↔◌, Bool, Option, None, List, [], ◌∷◌, map, refl, ap, sym, subst, ◌∙◌}
use Rattle.tc_entry.specs.declared.{entry.Entry.Entry, op.Op.Op, reply.Reply.Reply}
use Rattle.tc_rules.{specs.{Inside.Words.is_alive_create, Answers.answer, Faults.{all_exist, fault}, History.{comp_of, comps, created, exists, halts, is_alive_type, kills, started_on}, Laws.{unnamed, unnamed_op}, Legal.IsLegal, Local.{gives, local, overall, verdicts_of}, Phases.halts_from_outside, Phases.{is_excused, last_run, phase, start_in, was_halted, was_killed}, Waiting.{parks, waiting}}, proofs.Determined.{IsSame, answer_same}}

-- what says the same of a Create with any name says the same of the operation without its name
ignores : {A : Type 0} (f : Op → A) → ((alive : Bool) (name : Option (List ℕ)) → f (Op.Create alive None) ≡ f (Op.Create alive name)) → (op : Op) → f (unnamed_op op) ≡ f op
ignores f h (Op.Create alive name) = h alive name
ignores f h _ = refl

created_of : (r : Reply) (op : Op) → created (unnamed_op op) r ≡ created op r
created_of (Reply.Made c) op = ignores (λ o. created o (Reply.Made c)) (λ alive name. refl) op
created_of Reply.Ok op = ignores (λ o. created o Reply.Ok) (λ alive name. refl) op
created_of (Reply.Answer b) op = ignores (λ o. created o (Reply.Answer b)) (λ alive name. refl) op
created_of (Reply.Local v) op = ignores (λ o. created o (Reply.Local v)) (λ alive name. refl) op
created_of Reply.Matched op = ignores (λ o. created o Reply.Matched) (λ alive name. refl) op
created_of Reply.Parked op = ignores (λ o. created o Reply.Parked) (λ alive name. refl) op
created_of Reply.Ended op = ignores (λ o. created o Reply.Ended) (λ alive name. refl) op
created_of (Reply.Fault f) op = ignores (λ o. created o (Reply.Fault f)) (λ alive name. refl) op

alive_of : (op : Op) → is_alive_create (unnamed_op op) ≡ is_alive_create op
alive_of op = ignores is_alive_create (λ alive name. refl) op

comps_of : (past : List Entry) → comps (map unnamed past) ≡ comps past
comps_of [] = refl
comps_of (e ∷ past) = rw (created_of e.reply e.op, comps_of past)

started_of : (e : Entry) (b : ℕ) → started_on (unnamed e) b ≡ started_on e b
started_of e b = ignores (λ o. started_on (record e { op = o }) b) (λ alive name. refl) e.op

comp_same : (past : List Entry) (b : ℕ) → comp_of (map unnamed past) b ≡ comp_of past b
comp_same [] b = refl
comp_same (e ∷ past) b = rw (comp_same past b, started_of e b)

exists_same : (past : List Entry) (c : ℕ) → exists (map unnamed past) c ≡ exists past c
unfolding exists
exists_same past c = rw (comps_of past)

alive_same : (past : List Entry) (c : ℕ) → is_alive_type (map unnamed past) c ≡ is_alive_type past c
alive_same [] c = refl
alive_same (e ∷ past) c = rw (exists_same past c, alive_same past c, created_of e.reply e.op, alive_of e.op)

kills_of : (e : Entry) (c : ℕ) → kills (unnamed e) c ≡ kills e c
kills_of e c = ignores (λ o. kills (record e { op = o }) c) (λ alive name. refl) e.op

halts_of : (own : Option _) (e : Entry) (c : ℕ) → halts own (unnamed e) c ≡ halts own e c
halts_of own e c = ignores (λ o. halts own (record e { op = o }) c) (λ alive name. refl) e.op

outside_of : (own : Option _) (e : Entry) (c : ℕ) → halts_from_outside own (unnamed e) c ≡ halts_from_outside own e c
outside_of own e c = ignores (λ o. halts_from_outside own (record e { op = o }) c) (λ alive name. refl) e.op

start_of : (e : Entry) (c : ℕ) → start_in (unnamed e) c ≡ start_in e c
start_of e c = ignores (λ o. start_in (record e { op = o }) c) (λ alive name. refl) e.op

killed_same : (past : List Entry) (c : ℕ) → was_killed (map unnamed past) c ≡ was_killed past c
killed_same [] c = refl
killed_same (e ∷ past) c = rw (exists_same past c, kills_of e c, killed_same past c)

last_same : (past : List Entry) (c : ℕ) → last_run (map unnamed past) c ≡ last_run past c
last_same [] c = refl
last_same (e ∷ past) c = rw (start_of e c, last_same past c)

halted_same : (past : List Entry) (c : ℕ) → was_halted (map unnamed past) c ≡ was_halted past c
halted_same [] c = refl
halted_same (e ∷ past) c = rw (start_of e c, comp_same past e.caller.0, halts_of (comp_of past e.caller.0) e c, halted_same past c)

excused_same : (past : List Entry) (c : ℕ) → is_excused (map unnamed past) c ≡ is_excused past c
excused_same [] c = refl
excused_same (e ∷ past) c =
    rw (start_of e c, halted_same past c, excused_same past c, comp_same past e.caller.0, outside_of (comp_of past e.caller.0) e c)

phase_same : (past : List Entry) (c : ℕ) → phase (map unnamed past) c ≡ phase past c
unfolding phase
phase_same past c = rw (killed_same past c, last_same past c, halted_same past c, alive_same past c)

parks_of : (r : Reply) (op : Op) → parks (unnamed_op op) r ≡ parks op r
parks_of Reply.Parked op = ignores (λ o. parks o Reply.Parked) (λ alive name. refl) op
parks_of _ op = refl

waiting_same : (past : List Entry) (b : ℕ) → waiting (map unnamed past) b ≡ waiting past b
waiting_same [] b = refl
waiting_same (e ∷ past) b = rw (parks_of e.reply e.op, waiting_same past b)

gives_of : (r : Reply) (op : Op) → gives (unnamed_op op) r ≡ gives op r
gives_of r op = ignores (λ o. gives o r) (λ alive name. refl) op

verdicts_same : (past : List Entry) (c : ℕ) → verdicts_of (map unnamed past) c ≡ verdicts_of past c
verdicts_same [] c = refl
verdicts_same (e ∷ past) c = rw (comp_same past e.caller.0, gives_of e.reply e.op, verdicts_same past c)

local_same : (past : List Entry) (c : ℕ) → local (map unnamed past) c ≡ local past c
unfolding local
local_same past c = rw (verdicts_same past c)

pub map_same : {A B : Type 0} (f g : A → B) (xs : List A) → ((x : A) → f x ≡ g x) → map f xs ≡ map g xs
map_same f g [] h = refl
map_same f g (x ∷ xs) h = rw (h x, map_same f g xs h)

overall_same : (past : List Entry) → overall (map unnamed past) ≡ overall past
unfolding overall
overall_same past = rw (comps_of past, map_same (local (map unnamed past)) (local past) (comps past) (local_same past))

all_same : (past : List Entry) → IsSame (map unnamed past) past
all_same past = record {
  comps_same = comps_of past;
  state_same = λ c. rw (phase_same past c, alive_same past c, last_same past c, excused_same past c, local_same past c);
  run_same = λ b. rw (comp_same past b, waiting_same past b);
}

answer_of : (n : ℕ) (past : List Entry) (b : ℕ) (op : Op) → answer n past b (unnamed_op op) ≡ answer n past b op
unfolding answer fault all_exist
answer_of n past b op = ignores (answer n past b) (λ alive name. refl) op

-- the same reply, with and without the names
reply_of : (n : ℕ) (past : List Entry) (b : ℕ) (op : Op) → answer n (map unnamed past) b (unnamed_op op) ≡ answer n past b op
reply_of n past b op = answer_same (all_same past) n b (unnamed_op op) ∙ answer_of n past b op

legal_more : (n : ℕ) (past : List Entry) → IsLegal n past → IsLegal n (map unnamed past)
legal_more n [] legal = tt
legal_more n (e ∷ past) legal = (legal.0 ∙ sym (reply_of n past e.caller.0 e.op), legal_more n past legal.1)

legal_less : (n : ℕ) (past : List Entry) → IsLegal n (map unnamed past) → IsLegal n past
legal_less n [] legal = tt
legal_less n (e ∷ past) legal = (legal.0 ∙ reply_of n past e.caller.0 e.op, legal_less n past legal.1)

pub legal_same : (n : ℕ) (h g : List Entry) → map unnamed h ≡ map unnamed g → IsLegal n h ↔ IsLegal n g
legal_same n h g same = (
  λ legal. legal_less n g (subst (IsLegal n) same (legal_more n h legal)),
  λ legal. legal_less n h (subst (IsLegal n) (sym same) (legal_more n g legal)),
)

pub locals_same : (h g : List Entry) (c : ℕ) → map unnamed h ≡ map unnamed g → local h c ≡ local g c
locals_same h g c same = sym (local_same h c) ∙ (ap (λ k. local k c) same ∙ local_same g c)

pub overalls_same : (h g : List Entry) → map unnamed h ≡ map unnamed g → overall h ≡ overall g
overalls_same h g same = sym (overall_same h) ∙ (ap overall same ∙ overall_same g)

pub ruleset naming_rules = (legal_same, locals_same, overalls_same)
