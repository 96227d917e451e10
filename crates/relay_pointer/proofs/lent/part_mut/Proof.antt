-- `part_mut` walks down a path, proved by a manual walk of its MIR. The lender's way to the current
-- node is composed, one turn at a time (`follows_then` of `denote.Follow`).
use Rattle.std.proofs.Common.{◌≡◌, ℕ, zero, suc, ◌+◌, ◌-◌, ◌^◌, ◌<◌, ◌≤◌, Option, Some, None, List}
use Rattle.std.proofs.Common.{[], ◌∷◌, ◌++◌, length, get_or, take, refl, sym, ap, ◌∙◌, lit<}
use Rattle.std.proofs.Common.{nltb→le, w64, Bor, MutBor, arith, ltb→lt, OnSome}
use Rattle.std.proofs.raw_atomic.Walks.{proved}
use seplogic.Ra.Ura.{Ura}
use mathlib.Core.WellFounded.InvImage
use mathlib.Core.Path.{subst⁻¹}
use mathlib.Core.Option as maybe
use lib.WfN.{lt-wf_rel}
use base.Fraction.{full_share}
use base.Logic.{SProp, ent, sep, emp, ex, id⊢}
use base.Fml.{Fml, Lft, GName, Share, ftrue, fsep, fat, flft, fres}
use mir.Syntax.{Body, skip, seq, block, loop, switch, arm, place, named, ty_int}
use mir.Val.{Val, vptr, vint, of_list}
use prog.Memory.{Memory}
use prog.Routine.{Routine}
use prog.Wp.{Env, Out, Wp, WpFn, Tables, at_return, after_seq, after_block, after_turn}
use types.Logic.{Logic, sem}
use types.Kit.{Item, Goal, Seq, Sq, any_q, runs, lands, settles, ‵, raw, ◌⊛◌, some, later, at_ret}
use types.Kit.{◌$◌, ◌∵◌, !, qed, by, move, keep, drop, use0, use1, use2, split, split3, join, group}
use types.Kit.{pick, await, rewrite, regoal, fsplit, fjoin, fpick, fpack, feq_l, feq_i, suffices}
use types.Kit.{frame, done}
use types.Part.{whole as all_of, agg}
use types.Match.{live, vrt, in_variant}
use types.Run.{stop, fld, addr, of_opd, bin, lit, no_more, and_then, first, blocks, branches, skips}
use types.Run.{jumps, switches_on, exec, returns, returns_within, enter, loops, again, Below}
use types.ByLocal.{alloc_all, pass_all, free_all, look_at, get, get_in, get_tag, through, sets}
use types.ByLocal.{sets_last, lands_as, lands_last, holding, forget_but, take_at, give_at, env}
use sound.WpLaws.{fm_of}
use contract.Monad.{Fun, fact, fact_i}
use contract.Running.{tables, tables_of}
use denote.Exit.{yes, no}
use denote.RattleType.{RattleType, Valss, owns}
use denote.Laws.{Is, shows}
use denote.Builtin.{usize}
use denote.Plain.{uint_vals, uint_Tells, uint_Makes}
use denote.Ref.{MutRef, ShrRef, mut_vals, shr_vals, mut_Tells, shr_Tells, shr_copy}
use denote.Follow.{follows, follows_so, follows_by, such_by, follows_then, followed}
use denote.Enum.Row.{tagged_with}
use denote.Enum.Enum.{form_of, in_a_row}
use denote.Enum.Declared.{shape}
use denote.Signature.{plain, mut_ref_to, shr_ref_to}
use denote.Steps.{nothing, owned, heard, peeks, only}
use denote.Triple.Call.{calls_at, calls_at_last}
use denote.Triple.Clauses.{Clauses, lasts}
use denote.Triple.Spec.{triple_of}
use denote.Triple.Statement.{Contract, Triple}
use denote.Triple.Walked.{Stays, walk_of, says, stay_dropped, Goes-dropped, Goes-spent_ref, ends_at}
use Rattle.std.specs.Option.{option_copied_mut}
use Rattle.std.specs.contracts.option.Option as OP
use Rattle.relay_tree.specs.Document.{Document}
use Rattle.relay_tree.specs.Seen.{document_of}
use Rattle.relay_tree.specs.declared.tree.Node.{Node}
use Rattle.relay_tree.specs.contracts.tree.Node.{the_row as N}
use Rattle.relay_tree.specs.contracts.tree.Tree.{the_row as T}
use Rattle.relay_pointer.specs.Path.{child, with_child, at, put}
use Rattle.relay_pointer.specs.Lending.{LendsChild}
use Rattle.relay_pointer.specs.contracts.pointer.Pointer.{the_row as P}
use Rattle.relay_pointer.proofs.pointer.Pointer.TheLaws.{the_row_laws}
use Rattle.relay_pointer.proofs.Reaching.{Reached, front_length, front_token, starts, steps}
use Rattle.relay_pointer.proofs.Reaching.{missing, ends}
use Rattle.relay_pointer.specs.contracts.lent.part_mut as f
use Rattle.relay_pointer.proofs.lent.part_mut.Statement.{statement}
use Rattle.relay_pointer.proofs.lent.part_mut.Code as code
use Rattle.relay_pointer.specs.contracts.lent.node_mut as g
use Rattle.relay_pointer.specs.contracts.lent.node_mut.Key.{name as #node_mut}
use Rattle.relay_pointer.proofs.lent.node_mut.Met as node_mut
use Rattle.relay_pointer.specs.contracts.lent.child_at as h
use Rattle.relay_pointer.specs.contracts.lent.child_at.Key.{name as #child_at}
use Rattle.relay_pointer.proofs.lent.child_at.Met as child_at

-- parts of a body
abbrev parts : Body → Body × Body
parts (seq a b) = (a, b)
parts (block a) = (a, skip)
parts (loop a) = (a, skip)
parts _ = (skip, skip)

abbrev after : ℕ → Body → Body
after zero b = b
after (suc n) b = after n (parts b).1

abbrev head : Body → Body
head b = (parts b).0

abbrev arm_of : ℕ → Body → Body
arm_of zero (switch o (arm ks b r)) = b
arm_of (suc zero) (switch o (arm ks b (arm ks' b' r))) = b'
arm_of _ b = skip

abbrev turn : Body
turn = head (head (head (after 3 (code.function).body)))

abbrev stayed : Stays f.ended.signature.params f.ended.kept
stayed = (
  stay_dropped (mut_ref_to (0 ∷ []) tt (plain (λ _. T))) no,
  (
    stay_dropped (shr_ref_to (1 ∷ []) tt (plain (λ _. P))) yes,
    (stay_dropped (plain (λ _. usize)) yes, tt),
  ),
)

one_more : (i : ℕ) → i + 1 ≡ suc i
one_more i = omega arith

-- an `Option` of a row, made and taken apart
module _ {M : Type 1} {𝓤 : Ura M} (𝓛 : Logic 𝓤) (X : RattleType) where
  some_in : (x : X.Denot) (v : Val)
      → ent 𝓤 (sem 𝓛 (X.own_val x (v ∷ [])))
      (sem 𝓛 ((OP.the_row X).own_val (Some x) (live 1 (of_list (v ∷ [])) ∷ [])))
  some_in x v =
      qed 𝓛 (‵ (X.own_val x (v ∷ [])) ∷ []) ∵ nothing ! $ move ! (1 ∷ 0 ∷ []) $ fjoin ! $ feq_i !
      (List Val) (v ∷ []) (v ∷ []) refl $ fjoin ! $
      fpack ! (Valss (X ∷ [])) (in_a_row (X ∷ []) (owns (X ∷ []) (x, tt)) (v ∷ [])) (v ∷ [], tt) $
      feq_i ! (List Val) (live 1 (of_list (v ∷ [])) ∷ [])
      (live 1 (of_list (v ∷ [])) ∷ []) refl $ fjoin ! $
      fpack ! (List Val)
      (tagged_with (form_of (shape (OP.the_type X))) (form_of (shape (OP.the_type X))).payload
      ((OP.the_type X).to (Some x)) (live 1 (of_list (v ∷ [])) ∷ [])) (v ∷ []) $ done !

  none_in : ent 𝓤 (emp 𝓤) (sem 𝓛 ((OP.the_row X).own_val None (live 0 (of_list []) ∷ [])))
  none_in =
      qed 𝓛 [] ∵ nothing ! $ feq_i ! (List Val) [] [] refl $ fjoin ! $ fpack ! (Valss [])
      (in_a_row [] (owns [] tt) []) tt $
      feq_i ! (List Val) (live 0 (of_list []) ∷ []) (live 0 (of_list []) ∷ []) refl $ fjoin ! $
      fpack ! (List Val)
      (tagged_with (form_of (shape (OP.the_type X))) (form_of (shape (OP.the_type X))).payload
      ((OP.the_type X).to None) (live 0 (of_list []) ∷ [])) [] $ done !

module _ {M : Type 1} {𝓤 : Ura M} {𝓛 : Logic 𝓤} {K : Type 0} {Γ : List (Item 𝓤)} {G : Goal 𝓤 𝓛.H}
    (t : K) (X : RattleType) where
  none_out : (vs : List Val) → (vs ≡ live 0 (of_list []) ∷ [] → Seq K 𝓛 Γ G)
      → Seq K 𝓛 (‵ ((OP.the_row X).own_val None vs) ∷ Γ) G
  none_out vs k =
      fpick t (λ us. fsplit t $ feq_l t
      (λ e. fpick t
      (λ vss. fsplit t $ feq_l t
      (λ e'. drop t $ k
      (subst⁻¹ (λ (ws : List Val). vs ≡ live 0 (of_list ws) ∷ [] → vs ≡ live 0 (of_list []) ∷ []) e'
      (λ p. p) e)))))

  some_out : (x : X.Denot) (vs : List Val)
      → ((xs : List Val) → vs ≡ live 1 (of_list (xs ++ [])) ∷ []
      → Seq K 𝓛 (‵ (X.own_val x xs) ∷ Γ) G) → Seq K 𝓛 (‵ ((OP.the_row X).own_val (Some x) vs) ∷ Γ) G
  some_out x vs k =
      fpick t (λ us. fsplit t $ feq_l t
      (λ e. fpick t (λ vss. fsplit t $ feq_l t (λ e'. fsplit t $ move t (1 ∷ []) $ drop t $
      k vss.0 (subst⁻¹
      (λ (ws : List Val). vs ≡ live 1 (of_list ws) ∷ []
      → vs ≡ live 1 (of_list (vss.0 ++ [])) ∷ []) e' (λ p. p) e)))))

-- the relation of `follows_so`, opened
module _ {M : Type 1} {𝓤 : Ura M} (𝓛 : Logic 𝓤) (R S : RattleType) (γ : GName)
    (Q : S.Denot → R.Denot → Type 0) (Q₀ : R.Denot → Type 0) where
  open 𝓛 use {A}

  abbrev Ways : Type 0
  Ways = (s : (S.Denot → R.Denot) × R.Denot) × ((w : S.Denot) → Q w (s.0 w)) × Q₀ s.1

  way_some : (γ' : GName)
      → ent 𝓤 (sem 𝓛 (follows_so R S γ (maybe.some γ') Q Q₀))
      (ex 𝓤 (λ (s : Ways). sem 𝓛 (follows R S γ γ' s.0.0)))
  unfolding such_by follows_by
  way_some γ' = id⊢ 𝓤 _

  way_none : ent 𝓤 (sem 𝓛 (follows_so R S γ maybe.none Q Q₀))
      (ex 𝓤 (λ (s : Ways). A.res γ (R.coded.code s.0.1)))
  unfolding such_by follows_by
  way_none = id⊢ 𝓤 _

module _ {M : Type 1} {𝓤 : Ura M} (𝓛 : Logic 𝓤) (at_mem : Memory → SProp 𝓤) (run : Routine → Fun 𝓤)
    (𝓣 : Tables 𝓤 𝓛.H) where
  open 𝓛 use {H, A}

  abbrev c : Clauses 𝓤 f.ended
  c = f.clauses 𝓛 at_mem run

  abbrev NodeOf : Contract 𝓤
  NodeOf = triple_of 𝓛 g.signature (g.spec 𝓛 at_mem run)

  abbrev ChildOf : Contract 𝓤
  ChildOf = triple_of 𝓛 h.signature (h.spec 𝓛 at_mem run)

  module _ (node_met : Triple 𝓤 (𝓣.C #node_mut) NodeOf)
      (child_met : Triple 𝓤 (𝓣.C #child_at) ChildOf)
      (κ μ : Lft) (q m : Share) (rb ro : ℕ) (γ : GName) (D : Document) (p : Bor (List (List ℕ)))
      (n : ℕ) (fn : n < 2 ^ 64) (all : n ≤ length p.now) where
    abbrev ts : List (List ℕ)
    ts = take n p.now

    long : length ts ≡ n
    long = front_length n p.now all

    abbrev whole : MutBor Document
    whole = record { ref_ptr = (rb, ro); ghost_name = γ; now = D }

    abbrev y : (walk_of 𝓛 f.ended stayed c).Ghost
    y = (
      (
        (κ, (μ, tt)),
        (q, (m, tt)),
        tt,
        (whole, (p, (n, tt))),
        (vptr rb ro ∷ [], (shr_vals p, (vint w64 n ∷ [], tt))),
      ),
      tt,
    )

    abbrev Post : Val → SProp 𝓤
    Post = (walk_of 𝓛 f.ended stayed c).post y

    abbrev NRef : RattleType
    NRef = MutRef (named 0) κ N

    abbrev TRef : RattleType
    TRef = MutRef (named 0) κ T

    abbrev NodeRef : MutBor Node → Fml
    NodeRef d = NRef.own_val d (mut_vals d)

    abbrev TreeRef : MutBor Document → Fml
    TreeRef x = TRef.own_val x (mut_vals x)

    abbrev Path : Fml
    Path = (ShrRef (named 1) μ P).own_val p (shr_vals p)

    exits_some : (d : MutBor Node) → Some (document_of d.now) ≡ at D ts
        → ent 𝓤 (sep 𝓤 (sem 𝓛 (NodeRef d))
        (sep 𝓤 (sem 𝓛 (follows T N γ d.ghost_name (λ w. put D ts (document_of w))))
        (sep 𝓤 (A.lft κ q) (A.lft μ m)))) (Post (live 1 (of_list (mut_vals d))))
    unfolding follows_by
    exits_some d value =
        let v = live 1 (of_list (mut_vals d)) in
        qed 𝓛 (‵ (NodeRef d) ∷ ‵ (follows T N γ d.ghost_name (λ w. put D ts (document_of w)))
        ∷ ‵ (flft κ q) ∷ ‵ (flft μ m) ∷ []) ∵
        use1 𝓛 (‵ ((OP.the_row NRef).own_val (Some d) (v ∷ [])))
        (some_in 𝓛 NRef d (vptr d.ref_ptr.0 d.ref_ptr.1)) $
        suffices ! _
        (ends_at 𝓛 f.ended stayed c y v (Some d) (tt, (tt, (tt, tt))) (tt, (tt, (tt, tt)))) $
        -- [the result; the way; κ; μ]
        nothing ! $ nothing ! $ fjoin ! $ nothing ! $ fjoin ! $ nothing ! $ fjoin ! $ join ! $
        nothing ! $ move ! (4 ∷ 0 ∷ []) $ join ! $ move !
        (3 ∷ 0 ∷ []) $ join ! $ join ! $ frame ! $ says ! value $ done !

    exits_none : at D ts ≡ None
        → ent 𝓤 (sep 𝓤 (A.res γ (T.coded.code D)) (sep 𝓤 (A.lft κ q) (A.lft μ m)))
        (Post (live 0 (of_list [])))
    unfolding follows_by
    exits_none gone =
        let v = live 0 (of_list []) in
        qed 𝓛 (‵ (fres γ (T.coded.code D)) ∷ ‵ (flft κ q) ∷ ‵ (flft μ m) ∷ []) ∵
        use0 𝓛 (‵ ((OP.the_row NRef).own_val None (v ∷ []))) (none_in 𝓛 NRef) $
        suffices ! _
        (ends_at 𝓛 f.ended stayed c y v None (tt, (tt, (tt, tt))) (tt, (tt, (tt, tt)))) $
        -- [the result; what the lender ends as; κ; μ]
        nothing ! $ nothing ! $ fjoin ! $ nothing ! $ fjoin ! $ nothing ! $ fjoin ! $ join ! $
        nothing ! $ move ! (4 ∷ 0 ∷ []) $ join ! $ move !
        (3 ∷ 0 ∷ []) $ join ! $ join ! $ frame ! $ says ! (sym gone) $ done !

    -- the two calls
    abbrev node_of : MutBor Document → NodeOf.Ghost
    node_of x = (((κ, tt), (q, tt), tt, (x, tt), (mut_vals x, tt)), tt)

    node_pre : (x : MutBor Document)
        → ent 𝓤 (sep 𝓤 (sem 𝓛 (TreeRef x)) (A.lft κ q)) (NodeOf.pre (node_of x))
    node_pre x =
        qed 𝓛 (‵ (TreeRef x) ∷ ‵ (flft κ q) ∷ []) ∵ nothing ! $ move !
        (1 ∷ 0 ∷ []) $ join ! $ nothing ! $ move ! (2 ∷ 0 ∷ []) $ join ! $ join ! $
        nothing ! $ move ! (1 ∷ 0 ∷ []) $ join ! $ done !

    abbrev NodeGot : MutBor Document → Val → Item 𝓤
    NodeGot x v =
        later (some (λ (d : MutBor Node). ((‵ (flft κ q) ⊛ ‵ ftrue) ⊛ ‵ (NRef.own_val d (v ∷ []))) ⊛
        some (λ (ws : Unit {0} × Unit {0}). ‵ (lasts g.ended (κ, tt) (x, tt) ws) ⊛ ‵
        (follows T N x.ghost_name d.ghost_name document_of) ⊛ raw
        (fact 𝓤 (document_of d.now ≡ x.now)))))

    abbrev child_of : MutBor Node → ℕ → ChildOf.Ghost
    child_of d i = (
      (
        (κ, (μ, tt)),
        (q, (m, tt)),
        tt,
        (d, (p, (i, tt))),
        (mut_vals d, (shr_vals p, (vint w64 i ∷ [], tt))),
      ),
      tt,
    )

    child_pre : (d : MutBor Node) (i : ℕ) → i < length p.now → i < 2 ^ 64
        → ent 𝓤 (sep 𝓤 (sem 𝓛 (NodeRef d)) (sep 𝓤 (sem 𝓛 Path) (sep 𝓤 (A.lft κ q) (A.lft μ m))))
        (ChildOf.pre (child_of d i))
    child_pre d i inside fi =
        qed 𝓛 (‵ (NodeRef d) ∷ ‵ Path ∷ ‵ (flft κ q) ∷ ‵ (flft μ m) ∷ []) ∵
        nothing ! $ owned ! usize (Is usize) (uint_Makes 𝓛 w64) i (vint w64 i ∷ [])
        (refl, fi) $ join ! $
        -- [the number; the node; the path; κ; μ]
        move ! (2 ∷ 0 ∷ []) $ join ! $ move ! (1 ∷ 0 ∷ []) $ join ! $
        nothing ! $ move ! (3 ∷ 0 ∷ []) $ join ! $ move ! (2 ∷ 0 ∷ []) $ join ! $ join ! $
        use0 𝓛 (raw (fact 𝓤 (i < length p.now)))
        (fact_i 𝓤 (i < length p.now) (emp 𝓤) inside) $ move ! (1 ∷ 0 ∷ []) $ join ! $ done !

    abbrev Led : MutBor Node → ℕ → Option (MutBor Document) → Fml
    Led d i r = LendsChild d (get_or p.now i []) r

    abbrev ChildGot : MutBor Node → ℕ → Val → Item 𝓤
    ChildGot d i v =
        later (some (λ (r : Option (MutBor Document)). ((‵ (flft κ q) ⊛ ‵ (flft μ m) ⊛ ‵ ftrue) ⊛ ‵
        ((OP.the_row TRef).own_val r (v ∷ []))) ⊛
        some (λ (ws : Unit {0} × (Unit {0} × (Unit {0} × Unit {0}))). ‵
        (lasts h.ended (κ, (μ, tt)) (d, (p, (i, tt))) ws) ⊛ ‵ (Led d i r) ⊛ raw
        (fact 𝓤 (option_copied_mut r ≡ child (document_of d.now) (get_or p.now i []))))))

    -- after i tokens: the node, and the whole's last value as a function of the node's
    abbrev State : Type 0
    State = (i : ℕ) × (d : MutBor Node) × (F : Node → Document) × (i ≤ n) × Reached D ts i d.now F

    abbrev LeadsTo : State → Option (MutBor Document) → Document → Node → Type 0
    LeadsTo t r =
        λ w k. OnSome r (document_of k ≡ with_child (document_of t.1.now) (get_or p.now t.0 []) w)

    abbrev Stays_as : State → Node → Type 0
    Stays_as t = λ k. document_of k ≡ document_of t.1.now

    abbrev Nearer : State → State → Type 0
    Nearer t u = n - t.0 < n - u.0

    module _ (l : ℕ → ℕ) where
      abbrev En : Env 𝓤 H
      En = env (code.function).locals l

      abbrev Locals : State → List (Item 𝓤)
      Locals t = holding 𝓛 En
          ((1, vptr rb ro) ∷ (2, vptr p.ref_ptr.0 p.ref_ptr.1) ∷ (3, vint w64 n)
          ∷ (4, vptr t.1.ref_ptr.0 t.1.ref_ptr.1) ∷ (5, vint w64 t.0) ∷ [])

      abbrev Now : State → List (Item 𝓤)
      Now t = ‵ (NodeRef t.1) ∷ ‵ (follows T N γ t.1.ghost_name t.2) ∷ ‵ (flft κ q) ∷ ‵ (flft μ m)
          ∷ ‵ Path ∷ Locals t

      abbrev Turned : State → Out → SProp 𝓤
      Turned t = after_turn 𝓤 H (Below 𝓛 Nearer Now t)
          (after_block 𝓤 H
          (after_seq 𝓤 H (Wp 𝓤 H 𝓣.C 𝓣.Λ En (after 4 (code.function).body) (at_return 𝓤 H En Post))
          (at_return 𝓤 H En Post)))

      abbrev Matched : State → Out → SProp 𝓤
      Matched t = after_seq 𝓤 H (Wp 𝓤 H 𝓣.C 𝓣.Λ En (after 5 turn) (Turned t)) (Turned t)

      arrives : (t : State) (v : Val) (r : Option (MutBor Document)) → t.0 < n
          → option_copied_mut r ≡ child (document_of t.1.now) (get_or p.now t.0 [])
          → Sq 𝓛 (‵ ((OP.the_row TRef).own_val r (v ∷ [])) ∷ ‵ (Led t.1 t.0 r) ∷ ‵ (flft κ q)
          ∷ ‵ (flft μ m) ∷ ‵ Path ∷ ‵ (follows T N γ t.1.ghost_name t.2) ∷ Locals t)
          (lands 𝓣.C 𝓣.Λ En (place 9 []) v (after 4 turn) (any_q (Turned t)))
      unfolding after_turn
      arrives t v None inside value =
          let gone = missing D ts (get_or p.now t.0 []) t.0 t.1.now t.2
          (omega (arith, inside, long)) (front_token n p.now t.0 inside) (sym value) t.4 in
          none_out ! TRef (v ∷ [])
          (λ e. lands_as ! (ap only e) refl (tt, (record { fits = lit< tt }, tt)) $
          -- [the way to nothing; κ; μ; the path; the way to the node]
          first ! $ switches_on !
          (get_tag ! (vrt ! refl (fld ! refl (stop !))) (all_of !)) $ exec ! 𝓣.C 𝓣.Λ En
          (arm_of 1 (head (after 4 turn))) (any_q (Matched t)) $
          sets ! (agg ! (and_then ! (lit ! tt) (no_more !))) refl
          (tt, (record { fits = lit< tt }, tt)) $
          returns_within ! Post refl (look_at ! 0 refl) $ free_all ! refl $
          use1 𝓛 (some
          (λ (s : Ways 𝓛 N T t.1.ghost_name (LeadsTo t None) (Stays_as t)). ‵
          (fres t.1.ghost_name (N.coded.code s.0.1))))
          (way_none 𝓛 N T t.1.ghost_name (LeadsTo t None) (Stays_as t)) $ pick ! (λ s.
          move ! (4 ∷ 0 ∷ []) $ use2 𝓛 (‵ (fres γ (T.coded.code (t.2 s.0.1))))
          (followed 𝓛 T N t.2 γ t.1.ghost_name s.0.1) $
          rewrite ! 0 (λ (e : Document). ‵ (fres γ (T.coded.code e))) (t.4.2 s.0.1 s.2) refl $
          keep ! (0 ∷ 1 ∷ 2 ∷ []) $ by ! (exits_none gone)))
      arrives t v (Some x) inside value =
          let i = t.0 in let d = t.1 in let F = t.2 in
          let fj : i + 1 < 2 ^ 64 = omega (arith, fn) in
          some_out ! TRef x (v ∷ []) (λ xs e. peeks ! TRef (Is TRef) (shows 𝓛 TRef) x xs (λ is.
          let spelt : xs ≡ mut_vals x = mut_Tells (named 0) κ T x xs is in
          rewrite ! 0 (λ (vs : List Val). ‵ (TRef.own_val x vs)) spelt refl $
          lands_as ! (ap only e ∙ ap (λ (vs : List Val). live 1 (of_list (vs ++ []))) spelt) refl
          (tt, (record { fits = lit< tt }, (tt, tt))) $
          -- [the child; the way to it; κ; μ; the path; the way to the node]
          first ! $ switches_on !
          (get_tag ! (vrt ! refl (fld ! refl (stop !))) (all_of !)) $ exec ! 𝓣.C 𝓣.Λ En
          (arm_of 0 (head (after 4 turn))) (any_q (Matched t)) $
          sets ! (of_opd !
          (get_in ! (vrt ! refl (fld ! refl (stop !))) (in_variant ! 1 0 refl refl (all_of !))))
          refl (tt, tt) $
          sets ! (addr ! (through ! refl (stop !))) refl (tt, tt) $
          move ! (0 ∷ 2 ∷ []) $ use2 𝓛 (raw (NodeOf.pre (node_of x))) (node_pre x) $
          calls_at_last ! (fm_of 𝓤 H 𝓛.laws 𝓣) NodeOf node_met (node_of x)
          (and_then ! (get ! refl) (no_more !)) (λ u.
          use1 𝓛 (NodeGot x u) (id⊢ 𝓤 _) $ await ! tt $ pick ! (λ d'. split ! $ split ! $ split ! $
          -- [κ; nothing; the child's node; the claims; the way to the child; μ; the path; the way
          -- to the node]
          move ! (3 ∷ []) $ pick !
          (λ ws. split3 ! $ drop ! $ move ! (1 ∷ []) $ heard ! _ (λ is_child.
          -- [the way from the child; κ; nothing; the child's node; the way to the child; μ; the
          -- path; the way to the node]
          move ! (3 ∷ []) $ peeks ! NRef (Is NRef) (shows 𝓛 NRef) d' (u ∷ []) (λ is'.
          let lies : u ∷ [] ≡ mut_vals d' = mut_Tells (named 0) κ N d' (u ∷ []) is' in
          rewrite ! 0 (λ (vs : List Val). ‵ (NRef.own_val d' vs)) lies refl $
          regoal ! (λ (z : Val). settles En (place 4 []) z (any_q (Matched t)))
          (ap only lies) refl $ lands_last ! refl (tt, tt) $
          exec ! 𝓣.C 𝓣.Λ En (after 5 turn) (any_q (Turned t)) $ sets_last !
          (bin ! (get ! refl) (lit ! tt) (record { fits = fj })) refl
          (tt, record { fits = fj }) $
          -- [the child's node; the way from the child; κ; nothing; the way to the child; μ; the
          -- path; the way to the node]
          move ! (4 ∷ []) $ use1 𝓛
          (some (λ (s : Ways 𝓛 N T t.1.ghost_name (LeadsTo t (Some x)) (Stays_as t)). ‵
          (follows N T d.ghost_name x.ghost_name s.0.0)))
          (way_some 𝓛 N T d.ghost_name (LeadsTo t (Some x)) (Stays_as t) x.ghost_name) $ pick !
          (λ s.
          let G = s.0.0 in
          move ! (7 ∷ 0 ∷ []) $ use2 𝓛 (‵ (follows T T γ x.ghost_name (λ e. F (G e))))
          (follows_then 𝓛 T N T F G γ d.ghost_name x.ghost_name) $
          move ! (0 ∷ 2 ∷ []) $ use2 𝓛
          (‵ (follows T N γ d'.ghost_name (λ w. F (G (document_of w)))))
          (follows_then 𝓛 T T N (λ e. F (G e)) document_of γ x.ghost_name d'.ghost_name) $
          -- [the way to the child's node; that node; κ; nothing; μ; the path]
          move ! (3 ∷ []) $ drop ! $ move ! (1 ∷ 0 ∷ []) $
          forget_but ! En (1 ∷ 2 ∷ 3 ∷ 4 ∷ 5 ∷ []) refl $ take_at ! 5 $ rewrite ! 0
          (λ (k : ℕ). ‵ (fat full_share (ty_int w64) (l 5) zero (vint w64 k)))
          (one_more i) refl $ give_at ! 5 $
          again ! Nearer Now t (
            suc i,
            d',
            (λ w. F (G (document_of w))),
            omega (arith, inside),
            steps D ts (get_or p.now i []) i d.now F x.now d'.now G (omega (arith, inside, long))
                (front_token n p.now i inside) (sym value) is_child s.1 t.4,
          )
          (omega (arith, inside))))))))))

      turns : (t : State) → Sq 𝓛 (Now t) (runs 𝓣.C 𝓣.Λ En turn (any_q (Turned t)))
      unfolding after_turn
      turns t =
          let i = t.0 in let d = t.1 in
          sets ! (bin ! (get ! refl) (get ! refl) tt) refl (tt, tt) $ first ! $ branches !
          (get ! refl)
          (λ less. let inside : i < n = ltb→lt i n less in
          skips ! $ exec ! 𝓣.C 𝓣.Λ En (after 2 turn) (any_q (Turned t)) $
          sets ! (addr ! (through ! refl (stop !))) refl (tt, tt) $
          -- [the node; the way to it; κ; μ; the path]
          move ! (4 ∷ []) $ use1 𝓛 (‵ Path ⊛ ‵ Path)
          ((shr_copy 𝓛 (named 1) μ P the_row_laws.shr_laws).twice p (shr_vals p)) $ split ! $
          move ! (2 ∷ 0 ∷ 4 ∷ 5 ∷ []) $ group ! 4 $ use1 𝓛 (raw (ChildOf.pre (child_of d i)))
          (child_pre d i (omega (arith, all)) (omega (arith, fn))) $
          calls_at ! (fm_of 𝓤 H 𝓛.laws 𝓣) ChildOf child_met (child_of d i)
          (and_then ! (get ! refl)
          (and_then ! (get ! refl) (and_then ! (get ! refl) (no_more !)))) (λ v.
          use1 𝓛 (ChildGot d i v) (id⊢ 𝓤 _) $ await ! tt $ pick !
          (λ r. split ! $ split ! $ split3 ! $
          -- [κ; μ; nothing; the result; the claims; the path; the way to the node]
          move ! (4 ∷ []) $ pick ! (λ ws. split3 ! $ drop ! $ move ! (1 ∷ []) $ heard ! _ (λ value.
          -- [the way to the child; κ; μ; nothing; the result; the path; the way to the node]
          move ! (3 ∷ []) $ drop ! $ move ! (3 ∷ 0 ∷ []) $ forget_but ! En
          (1 ∷ 2 ∷ 3 ∷ 4 ∷ 5 ∷ []) refl $ arrives t v r inside value)))))
          (λ over. let last = ends D ts i d.now t.2 (omega (arith, long, nltb→le i n over)) t.4 in
          jumps ! $ exec ! 𝓣.C 𝓣.Λ En (after 4 (code.function).body) (at_ret En Post) $
          sets ! (addr ! (through ! refl (stop !))) refl (tt, tt) $
          sets ! (agg ! (and_then ! (lit ! tt) (and_then ! (get ! refl) (no_more !)))) refl
          (tt, (record { fits = lit< tt }, (tt, tt))) $
          returns ! (look_at ! 0 refl) $ free_all ! refl $
          rewrite ! 1 (λ (G : Node → Document). ‵ (follows T N γ d.ghost_name G))
          (λ j w. last.1 w j) refl $ keep ! (0 ∷ 1 ∷ 2 ∷ 3 ∷ []) $ by ! (exits_some d last.0))

    walk : ent 𝓤
        (sep 𝓤 (sem 𝓛 (TreeRef whole)) (sep 𝓤 (sem 𝓛 Path) (sep 𝓤 (A.lft κ q) (A.lft μ m))))
        (WpFn 𝓤 H 𝓣.C 𝓣.Λ code.function
        (vptr rb ro ∷ vptr p.ref_ptr.0 p.ref_ptr.1 ∷ vint w64 n ∷ []) Post)
    walk =
        qed 𝓛 (‵ (TreeRef whole) ∷ ‵ Path ∷ ‵ (flft κ q) ∷ ‵ (flft μ m) ∷ []) ∵ enter ! 𝓣.C 𝓣.Λ
        code.function (vptr rb ro ∷ vptr p.ref_ptr.0 p.ref_ptr.1 ∷ vint w64 n ∷ []) _ $
        alloc_all ! (λ l. pass_all ! refl ((tt, tt), ((tt, tt), ((tt, record { fits = fn }), tt))) $
        sets ! (addr ! (through ! refl (stop !))) refl (tt, tt) $
        move ! (0 ∷ 2 ∷ []) $ use2 𝓛 (raw (NodeOf.pre (node_of whole))) (node_pre whole) $
        calls_at ! (fm_of 𝓤 H 𝓛.laws 𝓣) NodeOf node_met (node_of whole)
        (and_then ! (get ! refl) (no_more !)) (λ u.
        use1 𝓛 (NodeGot whole u) (id⊢ 𝓤 _) $ await ! tt $ pick ! (λ d. split ! $ split ! $ split ! $
        -- [κ; nothing; the node; the claims; the path; μ]
        move ! (3 ∷ []) $ pick ! (λ ws. split3 ! $ drop ! $ move ! (1 ∷ []) $ heard ! _ (λ is_whole.
        -- [the way to the node; κ; nothing; the node; the path; μ]
        move ! (3 ∷ []) $ peeks ! NRef (Is NRef) (shows 𝓛 NRef) d (u ∷ []) (λ is.
        let lies : u ∷ [] ≡ mut_vals d = mut_Tells (named 0) κ N d (u ∷ []) is in
        rewrite ! 0 (λ (vs : List Val). ‵ (NRef.own_val d vs)) lies refl $ lands_as !
        (ap only lies) refl (tt, tt) $
        sets ! (of_opd ! (lit ! tt)) refl (tt, record { fits = lit< tt }) $
        -- [the node; the way to it; κ; nothing; the path; μ]
        move ! (3 ∷ []) $ drop ! $ move ! (0 ∷ 1 ∷ 2 ∷ 4 ∷ 3 ∷ []) $ forget_but ! (En l)
        (1 ∷ 2 ∷ 3 ∷ 4 ∷ 5 ∷ []) refl $
        first ! $ blocks ! $ loops ! 𝓣 Nearer (InvImage.wf (λ (t : State). n - t.0) lt-wf_rel.wf)
        (Now l) (turns l) (0, d, document_of, omega arith, starts D ts d.now is_whole)))))))

pub part_mut_spec : {M : Type 1} → statement M
unfolding tables_of
part_mut_spec 𝓤 𝓛 𝓜 𝓡 wired =
    let 𝓣 : Tables 𝓤 𝓛.H = tables_of 𝓤 𝓛.H 𝓜 (tables 𝓤 𝓛.H 𝓜 𝓡 𝓡.env) in
    let k = f.clauses 𝓛 𝓜.mem 𝓡.returns in
    proved 𝓛 f.ended stayed k 𝓜 𝓡 (
      Goes-spent_ref 𝓛 2 (0 ∷ []) tt (plain (λ _. T)),
      (
        Goes-dropped 𝓛 2 (shr_ref_to (1 ∷ []) tt (plain (λ _. P))) yes (λ κs x w. refl),
        (Goes-dropped 𝓛 2 (plain (λ _. usize)) yes (λ κs x w. refl), tt),
      ),
    )
    f.Key.name code.function (code.unfolded 𝓤 𝓛.H 𝓜 𝓡 wired)
    (λ κs. (mut_vals, (shr_vals, (uint_vals w64, tt))))
    (λ κs. (mut_Tells (named 0) κs.0 T, (shr_Tells (named 1) κs.1.0 P, (uint_Tells w64, tt))))
    (λ κs qs bounds a _ are.
    let κ = κs.0 in let μ = κs.1.0 in let q = qs.0 in let m = qs.1.0 in let x = a.0 in
    let p = a.1.0 in let n = a.1.1.0 in
    let fn : n < 2 ^ 64 = are.1.1.0.1 in
    qed 𝓛 (((‵ (flft κ q) ⊛ ‵ (flft μ m) ⊛ ‵ ftrue) ⊛ ‵
    ((MutRef (named 0) κ T).own_val x (mut_vals x)) ⊛ ‵
    ((ShrRef (named 1) μ P).own_val p (shr_vals p)) ⊛ ‵
    (fsep (usize.own_val n (uint_vals w64 n)) ftrue))
    ∷ raw (fact 𝓤 (n ≤ length p.now)) ∷ []) ∵ split ! $ split3 ! $
    -- [κ; μ; nothing; the parameters; the claim]
    move ! (4 ∷ []) $ heard ! _ (λ all. move ! (3 ∷ []) $ split3 ! $
    -- [the whole; the path; the number; κ; μ; nothing]
    keep ! (0 ∷ 1 ∷ 3 ∷ 4 ∷ []) $
    by ! (walk 𝓛 𝓜.mem 𝓡.returns 𝓣
    (node_mut.met 𝓤 𝓛 𝓜 𝓡 (code.calls-relay_pointer::lent::node_mut 𝓡.env wired))
    (child_at.met 𝓤 𝓛 𝓜 𝓡 (code.calls-relay_pointer::lent::child_at 𝓡.env wired))
    κ μ q m x.ref_ptr.0 x.ref_ptr.1 x.ghost_name x.now p n fn all)))
