-- The heap as what a call on any allocator is passed. A bare box and an owned table by value, taken apart and put together.
use Rattle.std.{proofs.Common.{◌≡◌, ℕ, List, [], ◌∷◌, ◌++◌, refl, ap, ◌∙◌, subst}, specs.Prelude.Option}
use mir.Raw.{raw as in_memory}
use mir.Val.{Val, vstruct, vcons, vnil, of_list}
use base.Logic.{never, fst∗}
use types.Logic.{Logic, sem}
use types.Kit.{Item, Goal, Seq, Step, step, ‵, ◌$◌, drop, fsplit, fjoin, fpick, fpack, feq_i, feq_l}
use denote.RattleType.{RattleType, Valss}
use denote.Builtin.{RawPtr}
use denote.Memory.{lone}
use denote.RawPtr.{Ptr, block_ptr, null_ptr, ptr_val, in_a_block}
use denote.Steps.{nothing}
use denote.Struct.Struct.{within}
use denote.Struct.Owning.{shape}
use Rattle.std.specs.{Box.Ownership.box_owns, declared.alloc.Global.Global}
use Rattle.tc_rules.specs.Standing.{Case}
use Rattle.tc_table.specs.Calls.{boxed_at, owned_at}
use Rattle.tc_table.specs.contracts.held_case.Bare as bare
use Rattle.tc_table.specs.contracts.held_case.OwnedTable as owned
use mir.Syntax.{Dict, impl, tcons, tnil, dnil}
use denote.Exit.{no}
use denote.Param.{layout, arg}
use denote.Param.Laws.{arg_laws}
use Rattle.std.{proofs.alloc.{Calls.Al, Global.TheLaws.the_row_laws}, specs.contracts.{alloc.Global.the_row, impls.GlobalAllocator.TheImpl.{ghosts, dict}}}

-- the type as an argument
abbrev passed : RattleType
passed = arg (in_memory (layout the_row)) no the_row

-- an allocator of the C library needs no drop
abbrev pub no_drop : Dict
no_drop = impl ("tc_table::Destruct++none::drop" ∷ []) (tcons (layout passed) tnil) dnil

abbrev pub heap : Al
heap = record { row = passed; laws = arg_laws (in_memory (layout the_row)) no the_row the_row_laws refl; g = ghosts; d = dict; drops = no_drop }

-- the machine value of a struct of one pointer
abbrev pub alone : Ptr → Val
alone p = vstruct (vcons (ptr_val p) vnil)

module _ {M : Type 1} {𝓤 : seplogic.Ra.Ura.Ura M} {𝓛 : Logic 𝓤} {K : Type 0} {Γ : List (Item 𝓤)} {G : Goal 𝓤 𝓛.H} where
  -- what a table's memory at a pointer is, that pointer is no null
  pub located : K → (R : RattleType) (p : Ptr) (x : R.Denot)
      → ((b o : ℕ) → p ≡ block_ptr b o → Seq K 𝓛 (‵ (boxed_at R (block_ptr b o) x) ∷ Γ) G) → Seq K 𝓛 (‵ (boxed_at R p x) ∷ Γ) G
  located t R p x next =
      fpick t (λ a. in_a_block t p (λ q. box_owns (ghosts.dealloc_token a) R q x) (fst∗ 𝓤 (never 𝓤) (sem 𝓛 (ghosts.dealloc_token a (in_memory (lone R.mir)) null_ptr)))
      (λ b o e. fpack t Global (λ c. box_owns (ghosts.dealloc_token c) R (block_ptr b o) x) a $ next b o e))

  pub owned_apart : K → (k : (owned.the_row).Denot) (vs : List Val) → (vs ≡ alone k.at ∷ [] → Seq K 𝓛 (‵ (owned_at k.at k.case) ∷ Γ) G)
      → Seq K 𝓛 (‵ ((owned.the_row).own_val k vs) ∷ Γ) G
  owned_apart t k vs next =
      fsplit t $ fpick t (λ inner. fsplit t $ feq_l t (λ outer. fsplit t $ feq_l t (λ field. drop t $
      next (subst (λ (ps : List Val). vs ≡ vstruct (of_list (ps ++ [])) ∷ []) field outer))))

  pub owned_together : K → (p : Ptr) (case : Option Case)
      → Step K 𝓛 (‵ ((owned.the_row).own_val (record { at = p; case = case }) (alone p ∷ [])) ∷ Γ) G (‵ (owned_at p case) ∷ Γ) G
  owned_together t p case = step (λ rest.
      nothing t $ feq_i t (List Val) (ptr_val p ∷ []) (ptr_val p ∷ []) refl $ fjoin t $
      feq_i t (List Val) (alone p ∷ []) (alone p ∷ []) refl $ fjoin t $
      fpack t (Valss (RawPtr ∷ [])) (within (shape owned.the_type) (p, tt) (alone p ∷ [])) (ptr_val p ∷ [], tt) $ fjoin t $ rest)

  pub bare_apart : K → (R : RattleType) (d : (bare.the_row R).Denot) (vs : List Val)
      → ((b o : ℕ) → vs ≡ alone (block_ptr b o) ∷ [] → Seq K 𝓛 (‵ (boxed_at R (block_ptr b o) d.value) ∷ Γ) G)
      → Seq K 𝓛 (‵ ((bare.the_row R).own_val d vs) ∷ Γ) G
  bare_apart t R d vs next =
      fsplit t $ fpick t (λ inner. fsplit t $ feq_l t (λ outer. fsplit t $ feq_l t (λ field. drop t $
      located t R d.at d.value (λ b o e. next b o
      (subst (λ (ps : List Val). vs ≡ vstruct (of_list (ps ++ [])) ∷ []) field outer ∙ ap (λ (p : Ptr). alone p ∷ []) e)))))

  pub bare_together : K → (R : RattleType) (b o : ℕ) (x : R.Denot)
      → Step K 𝓛 (‵ ((bare.the_row R).own_val (record { at = block_ptr b o; value = x }) (alone (block_ptr b o) ∷ [])) ∷ Γ) G
      (‵ (boxed_at R (block_ptr b o) x) ∷ Γ) G
  bare_together t R b o x = let v = ptr_val (block_ptr b o) in let w = alone (block_ptr b o) in step (λ rest.
      nothing t $ feq_i t (List Val) (v ∷ []) (v ∷ []) refl $ fjoin t $ feq_i t (List Val) (w ∷ []) (w ∷ []) refl $ fjoin t $
      fpack t (Valss (RawPtr ∷ [])) (within (shape (bare.the_type R)) (block_ptr b o, tt) (w ∷ [])) (v ∷ [], tt) $ fjoin t $ rest)
