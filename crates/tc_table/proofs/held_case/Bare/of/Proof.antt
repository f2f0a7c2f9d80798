-- A box is taken apart: the pointer is kept, with the memory that the call gives.
use Rattle.std.proofs.Common.{◌≡◌, List, [], ◌∷◌, ◌++◌, refl, sym, ap, ◌∙◌, subst}
use mir.Syntax.{Args, Fn, a_type, dcons, dnil}
use mir.Val.{Val}
use mir.MapTy.{inst_fn}
use base.Fraction.{full_share}
use base.Fml.{ftrue, flft}
use base.Logic.{SProp, ent, emp, id⊢}
use prog.Wp.{WpFn}
use types.Kit.{‵, raw, ◌⊛◌, some, later, ◌$◌, ◌∵◌, !, qed, by, move, keep, drop, split, split3, join, fsplit, fjoin, fpack, pick, suffices, use0, use1, await, feq_l}
use types.Run.{of_opd, no_more, and_then, returns, enter}
use types.ByLocal.{alloc_all, pass_all, free_all, look_at, get, sets, lands_as}
use types.Part.{agg}
use contract.BorrowLft.{◌⊑◌, ⊑_refl}
use contract.Monad.{fact, fact_i}
use contract.Running.{tables}
use denote.Exit.{no}
use denote.RattleType.{RattleType, owns}
use denote.Signature.{types_at, plain}
use denote.Builtin.{RawPtr}
use denote.RawPtr.{Ptr, block_ptr, ptr_val}
use denote.Steps.{nothing, only, heard}
use denote.Param.{param, bounded}
use denote.Param.NoDrop.{glues}
use denote.Triple.Call.{calls_at}
use denote.Triple.Clauses.{Lasts, lasts}
use denote.Triple.Spec.{triple_of}
use denote.Triple.Table.{framed}
use denote.Triple.Walked.{Stays, stay_dropped, walk_of}
use Rattle.std.{proofs.{alloc.Calls.Goes-blank, BoxSteps.Steps.{box_out, box_in}, raw_atomic.Walks.{proved_at, leaves}}, specs.{Box.Ownership.box_owns, contracts.impls.GlobalAllocator.TheImpl.ghosts, declared.alloc.Global.Global}}
use Rattle.std.proofs.BoxSteps.Form as form
use Rattle.std.proofs.impls.GlobalAllocator.TheImpl.Met as allocates
use Rattle.std.specs.contracts.boxed.Box as boxes
use Rattle.std.specs.contracts.boxed.Box.into_raw as callee
use Rattle.std.proofs.boxed.Box.into_raw.Met as callee_met
use Rattle.std.specs.contracts.alloc.Global as global
use Rattle.tc_table.{proofs.{Pieces.{heap, no_drop, alone, located, bare_together}, held_case.Bare.of.Statement.statement}, specs.contracts.held_case.Bare.of.{ended, clauses}}
use Rattle.tc_table.specs.contracts.held_case.Bare.of.Key.{name as #self}
use Rattle.tc_table.proofs.held_case.Bare.of.Code as code

pub of_spec : {M : Type 1} → statement M
unfolding Rattle.tc_table.proofs.Destruct++none.drop.Code.code
of_spec {M} 𝓤 𝓛 𝓜 𝓡 wired T LT dT glue =
    let 𝓣 = tables 𝓤 𝓛.H 𝓜 𝓡 𝓡.env in let R : RattleType = param 0 T in let Z = heap.row in let En = ended T dT in let c = clauses T dT 𝓛 𝓜.mem 𝓡.returns in
    let args : Args = bounded (a_type ∷ []) (T, tt) (dcons dT dnil) in let fn : Fn = inst_fn args code.function in
    let E : form.Bx = record { row = T; laws = LT; al = heap } in let B : RattleType = boxes.the_row R global.the_row heap.g in
    let stays : Stays En.signature.params En.kept = (stay_dropped (plain (λ _. B)) no, tt) in
    let Ce = callee.ended T Z heap.g heap.d no_drop dT in let G = triple_of 𝓛 (callee.signature T Z heap.g heap.d no_drop dT) (callee.spec T Z heap.g heap.d no_drop dT 𝓛 𝓜.mem 𝓡.returns) in
    let known = callee_met.met 𝓤 𝓛 𝓜 𝓡 (code.calls-std_alloc::boxed::Box::into_raw 𝓡.env wired) T Z LT heap.laws heap.g heap.d no_drop dT
    (allocates.passed 𝓡.env (code.calls-std_heap::GlobalAllocator::allocate 𝓡.env wired) (code.calls-std_heap::GlobalAllocator::deallocate 𝓡.env wired)
    (code.calls-std_heap::GlobalAllocator::grow 𝓡.env wired) (code.calls-std_heap::GlobalAllocator::shrink 𝓡.env wired) M 𝓤 𝓛 𝓜 𝓡)
    (glues "tc_table::Destruct++none::drop" 𝓡.env (code.calls-tc_table::Destruct++none::drop 𝓡.env wired) Z heap.laws M 𝓤 𝓛 𝓜 𝓡) glue in
    proved_at 𝓛 En stays c 𝓜 𝓡 (Goes-blank 𝓛 1 (plain (λ _. B)) no (λ κs x f. tt), tt) (#self args) fn (code.unfolded 𝓤 𝓛.H 𝓜 𝓡 wired (T, tt) dT) (λ z are.
    let κs = z.0.0 in let d = z.0.3.0 in let x = d.value in let lives = κs.0 ⊑ T.lives in let t = ‵ (flft κs.0 z.0.1.0) in let always = ‵ (flft [] full_share) in
    let Post : Val → SProp 𝓤 = (walk_of 𝓛 En stays c).post z in let Run : List Val → SProp 𝓤 = λ ws. WpFn 𝓤 𝓛.H 𝓣.C 𝓣.Λ fn ws Post in
    qed 𝓛 (((t ⊛ ‵ ftrue) ⊛ ‵ (owns (types_at En.signature.params κs) z.0.3 z.0.4)) ∷ (raw (fact 𝓤 lives) ⊛ ‵ ftrue) ∷ []) ∵
    move ! (1 ∷ []) $ split ! $ heard ! lives (λ le. drop ! $ split ! $ split ! $ move ! (2 ∷ []) $ fsplit ! $
    -- [the box; nothing; the token; nothing]
    use1 𝓛 (‵ ((form.B E).own_val d z.0.4.0)) (id⊢ 𝓤 _) $ box_out E ! d z.0.4.0 (λ b o h at is fits. box_in E ! d b o x at refl $
    let w = form.word E h b o in let good = form.box_typed E h b o fits in
    let y : G.Ghost = (((κs.0, ([], tt)), (z.0.1.0, (full_share, tt)), tt, (d, tt), (w ∷ [], tt)), tt) in
    -- the call asks for two tokens, the box, and that both types live so long
    fjoin ! $ use0 𝓛 always (𝓛.lfts.lft-nil full_share) $ move ! (0 ∷ 3 ∷ []) $ join ! $ move ! (2 ∷ 0 ∷ []) $ join ! $ join ! $
    nothing ! $ use0 𝓛 (raw (fact 𝓤 ([] ⊑ Z.lives))) (fact_i 𝓤 ([] ⊑ Z.lives) (emp 𝓤) (⊑_refl [])) $ join ! $
    use0 𝓛 (raw (fact 𝓤 lives)) (fact_i 𝓤 lives (emp 𝓤) le) $ join ! $ move ! (1 ∷ 0 ∷ []) $ join ! $ use1 𝓛 (raw (G.pre y)) (id⊢ 𝓤 _) $
    suffices ! (Run (w ∷ [])) (subst (λ (us : List Val). ent 𝓤 (Run (w ∷ [])) (Run us)) (sym (λ i. is i ++ [])) (id⊢ 𝓤 (Run (w ∷ [])))) $
    enter ! 𝓣.C 𝓣.Λ fn (w ∷ []) Post $ alloc_all ! (λ l. pass_all ! refl (good, tt) $ sets ! (of_opd ! (get ! refl)) refl good $
    calls_at ! (framed 𝓤 𝓛.H 𝓜 𝓣) G known y (and_then ! (get ! refl) (no_more !)) (λ u.
    use1 𝓛 (later (some (λ (p : Ptr). ((t ⊛ always ⊛ ‵ ftrue) ⊛ ‵ (RawPtr.own_val p (u ∷ []))) ⊛ some (λ (ls : Lasts Ce y.0.0 y.0.3). ‵ (lasts Ce y.0.0 y.0.3 ls) ⊛ ‵ (box_owns (ghosts.dealloc_token d.alloc) R p x))))) (id⊢ 𝓤 _) $
    await ! tt $ pick ! (λ p. split ! $ move ! (1 ∷ []) $ pick ! (λ ls. split ! $ drop ! $
    fpack ! Global (λ c. box_owns (ghosts.dealloc_token c) R p x) d.alloc $ located ! R p x (λ b' o' at'.
    move ! (1 ∷ []) $ split ! $ split3 ! $ move ! (3 ∷ []) $ feq_l ! (λ got.
    -- [the token; the other; nothing; the memory]
    lands_as ! (ap only (got ∙ ap (λ (q : Ptr). ptr_val q ∷ []) at')) refl (tt, tt) $
    sets ! (agg ! (and_then ! (get ! refl) (no_more !))) refl (tt, (tt, tt)) $
    move ! (0 ∷ 2 ∷ []) $ join ! $ move ! (2 ∷ []) $ bare_together ! R b' o' x $
    use0 𝓛 (raw (fact 𝓤 (x ≡ x))) (fact_i 𝓤 (x ≡ x) (emp 𝓤) refl) $ nothing ! $ nothing ! $ fjoin ! $
    -- [the parameter; the clause; the bare box; the tokens; the other token]
    returns ! (look_at ! 0 refl) $ free_all ! refl $ keep ! (3 ∷ 0 ∷ 2 ∷ 1 ∷ []) $
    by ! (leaves 𝓛 En stays c z (alone (block_ptr b' o')) (record { at = block_ptr b' o'; value = x }) (_, tt) (tt, tt)))))))))))
