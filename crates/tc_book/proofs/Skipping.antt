-- What each run was started with, by the entries that are none of a verdict call.
use Rattle.std.proofs.{Common.{ℕ, ◌≡◌, not, if◌then◌else◌, Bool, true, false, Option, None, List, [], ◌∷◌, ◌++◌, reverse, filter, refl, ap, sym, ◌∙◌, cond}, lemmas.List.Elements.filter-append, lemmas.List.{append-nil, reverse-append}}
use Rattle.tc_rules.specs.Prelude.{Comp, Entry, Op, Reply, is_ok, first_some, is_other, is_verdict_call}
use Rattle.tc_book.{specs.{Inside.KnowsStarts, OpenCase.{start_of, started_with}}, proofs.Lemmas.Starting.no_more}

if_none : (ok : Bool) → (if ok then (let o : Option (Comp × List Comp) = None in o) else None) ≡ None
if_none true = refl
if_none false = refl

no_start : (op : Op) (reply : Reply) (b : ℕ) → is_verdict_call op ≡ true → started_with op reply b ≡ None
no_start (Op.SetVerdict v) reply b h = if_none (is_ok reply)
no_start Op.GetVerdict reply b h = if_none (is_ok reply)
no_start _ reply b h = absurd cc

start_of_others : (past : List Entry) (b : ℕ) → start_of (filter is_other past) b ≡ start_of past b
start_of_others [] b = refl
start_of_others (e ∷ past) b = by_test (is_verdict_call e.op) refl (start_of_others past b)
  where
    by_test : (t : Bool) → is_verdict_call e.op ≡ t → start_of (filter is_other past) b ≡ start_of past b → start_of (cond (not t) (e ∷ filter is_other past) (filter is_other past)) b ≡ start_of (e ∷ past) b
    by_test true k before = before ∙ (no_more (start_of past b) ∙ ap (first_some (start_of past b)) (sym (no_start e.op e.reply b k)))
    by_test false k before = ap (λ o. first_some o (started_with e.op e.reply b)) before

pub filter-reverse : (p : Entry → Bool) (es : List Entry) → filter p (reverse es) ≡ reverse (filter p es)
filter-reverse p [] = refl
filter-reverse p (e ∷ es) =
    ap (filter p) (reverse-append (e ∷ []) es) ∙ (filter-append p (reverse es) (e ∷ [])
    ∙ (ap (λ l. l ++ filter p (e ∷ [])) (filter-reverse p es) ∙ by_test (p e)))
  where
    by_test : (t : Bool) → reverse (filter p es) ++ cond t (e ∷ []) [] ≡ reverse (cond t (e ∷ filter p es) (filter p es))
    by_test true = sym (reverse-append (e ∷ []) (filter p es))
    by_test false = append-nil (reverse (filter p es))

-- two histories that differ only in entries of verdict calls have the same starts
pub starts_same : (starts : List (Option (Comp × List Comp))) (h k : List Entry) → filter is_other h ≡ filter is_other k → KnowsStarts starts (reverse k) → KnowsStarts starts (reverse h)
starts_same starts h k same known b =
    known b ∙ (sym (start_of_others (reverse k) b)
    ∙ (ap (λ l. start_of l b) (filter-reverse is_other k ∙ (ap reverse (sym same) ∙ sym (filter-reverse is_other h)))
    ∙ start_of_others (reverse h) b))
