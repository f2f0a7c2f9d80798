-- The first words of operations, and what operations are about, read from the text after these.
use Rattle.std.{proofs.{Common.{◌≡◌, ◌≢◌, ◌∙◌, true, false, Some, None, ℕ, List, ◌++◌, codes, refl, ap, sym, append_assoc, ◌<◌, ◌≤◌, ◌+◌, ◌^◌, [], ◌∷◌, length, arith}, lemmas.Grind.common_steps}, specs.Fmt.decimal}
use Rattle.tc_entry.specs.{declared.comp.Comp.Comp, declared.limits.TheConstants.ARGUMENTS, declared.op.Group.Group, declared.op.Op.Op, declared.op.Target.Target, declared.reply.Fault.Fault, Prelude.{Run, fault_name}}
use Rattle.tc_text.{specs.{Inside.{IsWait, args_text, operand_text, status_text, verb_of, verb_text, start_text, AreComps}, Reading.{EndsMove, EndsNumber}, Spelling.{IsComp, IsGroup, IsTarget, group_text, op_text, target_text}, declared.verb.{Status.Status, Verb.Verb}}, proofs.Lemmas.Digits.{digit_first, no_letter}}

-- an operation is its first words and what follows them
pub op_words : (op : Op) → op_text op ≡ verb_text (verb_of op) ++ operand_text op
op_words (Op.Create false None) = refl
op_words (Op.Create true None) = refl
op_words (Op.Create false (Some name)) = refl
op_words (Op.Create true (Some name)) = refl
op_words (Op.Wait false t) = refl
op_words (Op.Wait true t) = refl
op_words (Op.Wake false t) = refl
op_words (Op.Wake true t) = refl
op_words op = refl

pub op_parts : (op : Op) (rest : List ℕ) → op_text op ++ rest ≡ verb_text (verb_of op) ++ (operand_text op ++ rest)
op_parts op rest = ap (λ (l : List ℕ). l ++ rest) (op_words op) ∙ append_assoc (verb_text (verb_of op)) (operand_text op) rest

-- a text of both is one of the operation
pub op_spelled : (op : Op) (verb : Verb) (text after rest : List ℕ) → text ≡ verb_text verb ++ after → verb_of op ≡ verb → after ≡ operand_text op ++ rest → text ≡ op_text op ++ rest
op_spelled op verb text after rest words is parts =
    words ∙ (ap (λ (l : List ℕ). verb_text verb ++ l) parts ∙ (ap (λ (v : Verb). verb_text v ++ (operand_text op ++ rest)) (sym is) ∙ sym (op_parts op rest)))

-- a text has the first words of a wait or a wake, or none of the four
pub no_wait : (s : Status) (text rest : List ℕ)
    → ((r : List ℕ) → text ≢ codes "wait done " ++ r) → ((r : List ℕ) → text ≢ codes "wait killed " ++ r) → ((r : List ℕ) → text ≢ codes "wake done " ++ r) → ((r : List ℕ) → text ≢ codes "wake killed " ++ r)
    → IsWait s → text ≡ status_text s ++ rest → ⊥
no_wait Status.WaitDone text rest a b c d is e = a rest e
no_wait Status.WaitKilled text rest a b c d is e = b rest e
no_wait Status.WakeDone text rest a b c d is e = c rest e
no_wait Status.WakeKilled text rest a b c d is e = d rest e
no_wait _ text rest a b c d is e = is

-- what reading a number shows: it is the number of each spelling that the text begins with
abbrev pub IsThatNumber : List ℕ → ℕ → List ℕ → Type 0
IsThatNumber text number behind = (n : ℕ) (rest : List ℕ) → n < 2 ^ 32 → EndsNumber rest → text ≡ decimal n ++ rest → (number ≡ n) × (behind ≡ rest)

pub group_only : (number : ℕ) (text behind : List ℕ) (g : Group) (rest : List ℕ) → number < 2 ^ 32 → text ≡ decimal number ++ behind → IsThatNumber text number behind → IsGroup g → EndsNumber rest → text ≡ group_text g ++ rest → (Group.One (record { 0 = number }) ≡ g) × (behind ≡ rest)
group_only number text behind (Group.One c) rest low spelled only fits ends e = let two = only c.0 rest fits ends e in (ap (λ k. Group.One (record { 0 = k })) two.0, two.1)
group_only number text behind Group.All rest low spelled only fits ends e = absurd (no_letter number 97 behind (codes "ll" ++ rest) low (omega arith) (sym spelled ∙ e))

pub target_only : (number : ℕ) (text behind : List ℕ) (t : Target) (rest : List ℕ) → number < 2 ^ 32 → text ≡ decimal number ++ behind → IsThatNumber text number behind → IsTarget t → EndsNumber rest → text ≡ target_text t ++ rest → (Target.One (record { 0 = number }) ≡ t) × (behind ≡ rest)
target_only number text behind (Target.One c) rest low spelled only fits ends e = let two = only c.0 rest fits ends e in (ap (λ k. Target.One (record { 0 = k })) two.0, two.1)
target_only number text behind Target.All rest low spelled only fits ends e = absurd (no_letter number 97 behind (codes "ll" ++ rest) low (omega arith) (sym spelled ∙ e))
target_only number text behind Target.Any rest low spelled only fits ends e = absurd (no_letter number 97 behind (codes "ny" ++ rest) low (omega arith) (sym spelled ∙ e))

-- ---- what may be after it

first_is : (x y : ℕ) (xs ys : List ℕ) → x ∷ xs ≡ y ∷ ys → x ≡ y
first_is x y xs ys e = cc

pub ends_space : (rest : List ℕ) → EndsNumber (32 ∷ rest)
ends_space rest b after e = let same : 32 ≡ b = first_is 32 b rest after e in omega (arith, same)

pub ends_args : (cs : List Comp) (rest : List ℕ) → EndsMove rest → EndsNumber (args_text cs ++ rest)
ends_args [] rest ends = ends.0
ends_args (c ∷ cs) rest ends = ends_space ((decimal c.0 ++ args_text cs) ++ rest)

pub ends_nothing : EndsMove []
ends_nothing = (λ b rest e. absurd cc, λ b rest e. absurd cc)

-- no name of a dynamic error is after a reply and a space
pub no_fault_after : (f : Fault) (text rest behind after : List ℕ) → text ≡ codes "error" ++ rest → rest ≡ codes " " ++ (fault_name f ++ behind) → EndsMove after → text ≡ codes "error" ++ after → ⊥
no_fault_after f text rest behind after whole fault ends e = by_name f (sym (let same = sym whole ∙ e in cc) ∙ fault)
  where
    by_name : (f : Fault) → after ≡ codes " " ++ (fault_name f ++ behind) → ⊥
    by_name Fault.NoComponent is = let low = ends.1 _ _ is in omega (arith, low)
    by_name Fault.NotMain is = let low = ends.1 _ _ is in omega (arith, low)
    by_name Fault.StartMain is = let low = ends.1 _ _ is in omega (arith, low)
    by_name Fault.AlreadyRunning is = let low = ends.1 _ _ is in omega (arith, low)
    by_name Fault.NotStartable is = let low = ends.1 _ _ is in omega (arith, low)
    by_name Fault.NoBehaviour is = let low = ends.1 _ _ is in omega (arith, low)
    by_name Fault.TooMany is = let low = ends.1 _ _ is in omega (arith, low)
    by_name Fault.Stuck is = let low = ends.1 _ _ is in omega (arith, low)

-- ---- arguments

args_assoc : (c : Comp) (cs : List Comp) (rest : List ℕ) → args_text (c ∷ cs) ++ rest ≡ 32 ∷ (decimal c.0 ++ (args_text cs ++ rest))
args_assoc c cs rest = ap (λ l. 32 ∷ l) (append_assoc (decimal c.0) (args_text cs) rest)

args_nil : (old : List Comp) → old ≡ old ++ []
args_nil old = grind (arith, common_steps)

behind_space : (xs ys : List ℕ) → 32 ∷ xs ≡ 32 ∷ ys → xs ≡ ys
behind_space xs ys e = cc

-- no space comes first
pub no_args : (text : List ℕ) (old cs : List Comp) (rest : List ℕ) → ((after : List ℕ) → text ≢ 32 ∷ after) → text ≡ args_text cs ++ rest → (old ≡ old ++ cs) × (text ≡ rest)
no_args text old [] rest none e = (args_nil old, e)
no_args text old (c ∷ cs) rest none e = absurd (none _ (e ∙ args_assoc c cs rest))

-- no number is after the space
pub no_number : (text after : List ℕ) (old cs : List Comp) (rest : List ℕ) → text ≡ 32 ∷ after → ((n : ℕ) (rest : List ℕ) → n < 2 ^ 32 → EndsNumber rest → after ≡ decimal n ++ rest → ⊥) → AreComps cs → EndsMove rest → text ≡ args_text cs ++ rest → (old ≡ old ++ cs) × (text ≡ rest)
no_number text after old [] rest space none fits ends e = (args_nil old, e)
no_number text after old (c ∷ cs) rest space none fits ends e =
    absurd (none c.0 (args_text cs ++ rest) fits.0 (ends_args cs rest ends) (behind_space after _ (sym space ∙ e ∙ args_assoc c cs rest)))

-- what is found after an argument, with that argument
pub args_spelled : (text after behind result : List ℕ) (number : ℕ) (old mid new : List Comp) → text ≡ 32 ∷ after → after ≡ decimal number ++ behind → number < 2 ^ 32 → mid ≡ old ++ record { 0 = number } ∷ []
    → (cs : List Comp) × (new ≡ mid ++ cs) × AreComps cs × (behind ≡ args_text cs ++ result) → (cs : List Comp) × (new ≡ old ++ cs) × AreComps cs × (text ≡ args_text cs ++ result)
args_spelled text after behind result number old mid new space spelled low added found =
    let c : Comp = record { 0 = number } in
    let cs : List Comp = found.0 in
    (c ∷ cs, found.1 ∙ ap (λ l. l ++ cs) added ∙ append_assoc old (c ∷ []) cs, (low, found.2), space ∙ ap (λ l. 32 ∷ l) (spelled ∙ ap (λ l. decimal number ++ l) found.3) ∙ sym (args_assoc c cs result))

pub args_only : (text after behind result : List ℕ) (number : ℕ) (old mid new : List Comp) → text ≡ 32 ∷ after → after ≡ decimal number ++ behind → number < 2 ^ 32 → mid ≡ old ++ record { 0 = number } ∷ [] → IsThatNumber after number behind
    → ((cs : List Comp) (rest : List ℕ) → AreComps cs → length mid + length cs ≤ ARGUMENTS → EndsMove rest → behind ≡ args_text cs ++ rest → (new ≡ mid ++ cs) × (result ≡ rest))
    → (cs : List Comp) (rest : List ℕ) → AreComps cs → length old + length cs ≤ ARGUMENTS → EndsMove rest → text ≡ args_text cs ++ rest → (new ≡ old ++ cs) × (result ≡ rest)
args_only text after behind result number old mid new space spelled low added only more [] rest fits room ends e =
    let first = digit_first number low in
    let is : rest ≡ 32 ∷ first.0 ∷ (first.1.0 ++ behind) = sym e ∙ space ∙ ap (λ l. 32 ∷ l) (spelled ∙ ap (λ l. l ++ behind) first.1.1) in
    let below : first.0 < 48 = ends.1 first.0 (first.1.0 ++ behind) is in
    absurd (omega (arith, below, first.1.2))
args_only text after behind result number old mid new space spelled low added only more (c ∷ cs) rest fits room ends e =
    let two = only c.0 (args_text cs ++ rest) fits.0 (ends_args cs rest ends) (behind_space after _ (sym space ∙ e ∙ args_assoc c cs rest)) in
    let longer : length mid ≡ length old + 1 = grind (arith, common_steps, added) in
    let then = more cs rest fits.1 (omega (arith, longer, room)) ends two.1 in
    (then.0 ∙ ap (λ l. l ++ cs) added ∙ append_assoc old (record { 0 = number } ∷ []) cs ∙ ap (λ k. old ++ (record { 0 = k } ∷ cs)) two.0, then.1)

-- ---- a start

pub start_assoc : (c : Comp) (run : Run) (args : List Comp) (rest : List ℕ) → start_text c run args ++ rest ≡ decimal c.0 ++ (32 ∷ (decimal run.0 ++ (args_text args ++ rest)))
start_assoc c run args rest = append_assoc (decimal c.0) (32 ∷ (decimal run.0 ++ args_text args)) rest ∙ ap (λ l. decimal c.0 ++ (32 ∷ l)) (append_assoc (decimal run.0) (args_text args) rest)

-- what follows the component, and after the space after it
pub behind_comp : (text behind after : List ℕ) (comp : ℕ) (c : Comp) (run : Run) (args : List Comp) (rest : List ℕ) → IsThatNumber text comp behind → behind ≡ 32 ∷ after → IsComp c → text ≡ start_text c run args ++ rest → (comp ≡ c.0) × (after ≡ decimal run.0 ++ (args_text args ++ rest))
behind_comp text behind after comp c run args rest only space fits e =
    let two = only c.0 (32 ∷ (decimal run.0 ++ (args_text args ++ rest))) fits (ends_space (decimal run.0 ++ (args_text args ++ rest))) (e ∙ start_assoc c run args rest) in
    (two.0, behind_space after (decimal run.0 ++ (args_text args ++ rest)) (sym space ∙ two.1))

pub same_start : (n : ℕ) (r : Run) (bs : List Comp) (c : Comp) (run : Run) (cs : List Comp) → n ≡ c.0 → r.0 ≡ run.0 → bs ≡ cs → Op.Start (record { 0 = n }) r bs ≡ Op.Start c run cs
same_start n r bs c run cs one two three =
    ap (λ k. Op.Start (record { 0 = k }) r bs) one ∙ ap (λ k. Op.Start c (record { 0 = k }) bs) two ∙ ap (λ l. Op.Start c run l) three
