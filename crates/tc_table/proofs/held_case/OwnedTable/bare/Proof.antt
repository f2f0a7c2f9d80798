-- The pointer is given, and what it owns.
use Rattle.std.{proofs.{Common.{◌≡◌, List, [], ◌∷◌, ◌++◌, refl, sym, subst, ap, ◌∙◌}, lemmas.Bool.false≢true}, specs.Prelude.{Option, Some, None, is_some, true}}
use mir.Val.{Val}
use base.Logic.{SProp, ent, emp, id⊢}
use prog.Wp.{WpFn}
use types.Kit.{‵, raw, ◌⊛◌, ◌$◌, ◌∵◌, !, qed, by, move, keep, split, fsplit, fjoin, suffices, use0, rewrite}
use types.Run.{stop, fld, of_opd, no_more, and_then, returns, enter}
use types.ByLocal.{alloc_all, pass_all, free_all, look_at, get, get_in, sets}
use types.Part.{agg, sub, whole}
use contract.Monad.{fact, fact_i}
use contract.Running.{tables}
use denote.Exit.{yes}
use denote.RattleType.{RattleType, owns}
use denote.Signature.{types_at, plain}
use denote.RawPtr.{Ptr, block_ptr}
use denote.Steps.{nothing, heard}
use denote.Triple.Entry.{alive}
use denote.Triple.Walked.{Stays, stay_dropped, Goes-dropped, walk_of}
use Rattle.std.proofs.raw_atomic.Walks.{proved_at, leaves}
use Rattle.tc_rules.specs.contracts.table.Table as table
use Rattle.tc_rules.specs.Standing.{Case}
use Rattle.tc_table.{specs.{Calls.owned_at, contracts.held_case.OwnedTable.bare.{ended, clauses}}, proofs.{Pieces.{alone, located, owned_apart, bare_together}, held_case.OwnedTable.bare.Statement.statement}}
use Rattle.tc_table.specs.contracts.held_case.OwnedTable as owned
use Rattle.tc_table.specs.contracts.held_case.OwnedTable.bare.Key.{name as #self}
use Rattle.tc_table.proofs.held_case.OwnedTable.bare.Code as code

-- the test case of a place that has one
filled : (o : Option Case) → is_some o ≡ true → (x : Case) × (o ≡ Some x)
filled (Some x) full = (x, refl)
filled None full = absurd (false≢true full)

abbrev K : RattleType
K = owned.the_row

abbrev stays : Stays ended.signature.params ended.kept
stays = (stay_dropped (plain (λ _. K)) yes, tt)

pub bare_spec : {M : Type 1} → statement M
bare_spec 𝓤 𝓛 𝓜 𝓡 wired =
    let 𝓣 = tables 𝓤 𝓛.H 𝓜 𝓡 𝓡.env in let c = clauses 𝓛 𝓜.mem 𝓡.returns in let fn = code.function in
    proved_at 𝓛 ended stays c 𝓜 𝓡 (Goes-dropped 𝓛 0 (plain (λ _. K)) yes (λ κs x f. refl), tt) #self fn (code.unfolded 𝓤 𝓛.H 𝓜 𝓡 wired) (λ z are.
    let κs = z.0.0 in let k = z.0.3.0 in let Post : Val → SProp 𝓤 = (walk_of 𝓛 ended stays c).post z in
    let Run : List Val → SProp 𝓤 = λ ws. WpFn 𝓤 𝓛.H 𝓣.C 𝓣.Λ fn ws Post in
    qed 𝓛 ((raw (alive 𝓛 ended.signature κs z.0.1) ⊛ ‵ (owns (types_at ended.signature.params κs) z.0.3 z.0.4)) ∷ raw (fact 𝓤 (is_some k.case ≡ true)) ∷ []) ∵
    move ! (1 ∷ []) $ heard ! (is_some k.case ≡ true) (λ full. split ! $ move ! (1 ∷ []) $ fsplit ! $
    -- [the place; nothing; the tokens]
    let x = (filled k.case full).0 in
    owned_apart ! k z.0.4.0 (λ is. rewrite ! 0 (λ (c : Option Case). ‵ (owned_at k.at c)) (filled k.case full).1 refl $ located ! table.the_row k.at x (λ b o at.
    let w = alone (block_ptr b o) in let word : z.0.4.0 ≡ w ∷ [] = is ∙ ap (λ (p : Ptr). alone p ∷ []) at in
    suffices ! (Run (w ∷ [])) (subst (λ (us : List Val). ent 𝓤 (Run (w ∷ [])) (Run us)) (sym (λ i. word i ++ [])) (id⊢ 𝓤 (Run (w ∷ [])))) $
    enter ! 𝓣.C 𝓣.Λ fn (w ∷ []) Post $ alloc_all ! (λ l. pass_all ! refl ((tt, (tt, tt)), tt) $
    sets ! (of_opd ! (get_in ! (fld ! refl (stop !)) (sub ! 0 refl (whole !)))) refl (tt, tt) $
    sets ! (of_opd ! (get ! refl)) refl (tt, tt) $
    sets ! (agg ! (and_then ! (get ! refl) (no_more !))) refl (tt, (tt, tt)) $
    bare_together ! table.the_row b o x $
    use0 𝓛 (raw (fact 𝓤 (k.case ≡ Some x))) (fact_i 𝓤 (k.case ≡ Some x) (emp 𝓤) (filled k.case full).1) $ nothing ! $ nothing ! $ fjoin ! $
    -- [the parameter; the clause; the bare box; nothing; the tokens]
    returns ! (look_at ! 0 refl) $ free_all ! refl $ keep ! (4 ∷ 0 ∷ 2 ∷ 1 ∷ []) $
    by ! (leaves 𝓛 ended stays c z w (record { at = block_ptr b o; value = x }) (tt, tt) (tt, tt)))))))
