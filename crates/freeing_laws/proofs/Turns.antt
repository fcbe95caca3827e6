-- Objects freed one after the other, each by its own counts: what nothing leads to grows less, and tidying sees none of it.
use Rattle.std.proofs.Common.{◌≡◌, ◌≢◌, ℕ, ◌+◌, ◌<◌, ◌==◌, Bool, true, false, cond, if◌then◌else◌, List, [], ◌∷◌, ◌++◌, Option, Some, None, refl, sym, ap, subst, ◌∙◌, arith, ◌⊎◌, inl, inr, nat_cmp, nat_lt, lt-ltb, ltb-true, eqb-true}
use Rattle.std.specs.Cmp.{nat_cmp_total}
use Rattle.std.proofs.lemmas.Bool.{cases_eq, or_left, or_right}
use Rattle.model.specs.FiniteMap.{FinMap, get, remove, nat_cmp-IsAntisymmetric}
use Rattle.model.specs.State.{Kernel, Description, links, ends, is_end}
use Rattle.model.specs.Changes.{Edit, applied, holders, openings, is_held, is_reached, without_descriptions, or_new, tidy}
use Rattle.model.proofs.Laws.{weight, sum-remove}
use Rattle.call_laws.proofs.Laws.{one_some, not_none, true_is_false, some_part, Part, sum-alike, removed_same, removed_other, held, held-alike, one, reached, either_of, held_by, rooted_reached, open_reached, alike_tidied}
use Rattle.freeing_laws.specs.Counts.{times, opens, let_go, unnamed, named, opened, free_description, free_inode, EditCounts, FreeingCounts}
use Rattle.freeing_laws.specs.Sweep.{AreParented, AreSet, nothing, inode_in, free_inodes, closed, all_closed, freed_in_turn}
use Rattle.freeing_laws.proofs.Times.{Has, has_rest, has_left, has_right, times_one, same_one, fewer}
use Rattle.freeing_laws.proofs.Freeing.{Covers, rooted_is_reached, unreached_bare, without_inode, removed_links, same_reached, parents_left, covered_is_tidy}
use Rattle.freeing_laws.proofs.Losing.{Comes, IsOpen, opened_by, same_links, edit_covers}

abbrev without_description : ℕ → Kernel → Kernel
without_description d k = record k { descriptions = remove k.descriptions d }

-- counts after an object goes
gone_links : (k : Kernel) (d n : ℕ) → links (without_description d k) n ≡ links k n
unfolding links
gone_links k d n = refl

gone_holders : (k : Kernel) (d e : ℕ) → holders (without_description d k) e ≡ holders k e
unfolding holders
gone_holders k d e = refl

gone_openings : (k : Kernel) (d n : ℕ) → weight (λ (v : Description). one v.inode n) (get k.descriptions d) + openings (without_description d k) n ≡ openings k n
unfolding openings
gone_openings k d n = sum-remove nat_cmp_total nat_cmp-IsAntisymmetric (λ (v : Description). one v.inode n) k.descriptions d

pub opens_weight : (n : ℕ) (o : Option Description) → opens n o ≡ weight (λ (v : Description). one v.inode n) o
opens_weight n None = refl
opens_weight n (Some it) = times_one n it.inode

pub fewer_openings : (k : Kernel) (d n : ℕ) → openings (without_description d k) n + opens n (get k.descriptions d) ≡ openings k n
fewer_openings k d n =
    let all : weight (λ (v : Description). one v.inode n) (get k.descriptions d) + openings (without_description d k) n ≡ openings k n = gone_openings k d n in
    let o : opens n (get k.descriptions d) ≡ weight (λ (v : Description). one v.inode n) (get k.descriptions d) = opens_weight n (get k.descriptions d) in
    omega arith

inode_gone_openings : (k : Kernel) (n m : ℕ) → openings (without_inode n k) m ≡ openings k m
unfolding openings
inode_gone_openings k n m = refl

inode_gone_holders : (k : Kernel) (n d : ℕ) → holders (without_inode n k) d ≡ holders k d
unfolding holders
inode_gone_holders k n d = refl

inode_gone_ends : (k : Kernel) (n p : ℕ) (mode : Description → Bool) → ends (without_inode n k) p mode ≡ ends k p mode
unfolding ends
inode_gone_ends k n p mode = refl

-- an object that something leads to stays, and one that nothing leads to goes
pub freed_description : (P : Kernel → Type 0) (k : Kernel) (d : ℕ) → (is_held k d ≡ true → P k) → (is_held k d ≡ false → P (without_description d k)) → P (free_description d k)
unfolding free_description
freed_description P k d f g = by_test (is_held k d) refl
  where
    by_test : (b : Bool) → is_held k d ≡ b → P (if b then k else without_description d k)
    by_test true e = f e
    by_test false e = g e

pub freed_inode : (P : Kernel → Type 0) (k : Kernel) (n : ℕ) → (is_reached k n ≡ true → P k) → (is_reached k n ≡ false → P (without_inode n k)) → P (free_inode n k)
unfolding free_inode
freed_inode P k n f g = by_test (is_reached k n) refl
  where
    by_test : (b : Bool) → is_reached k n ≡ b → P (if b then k else without_inode n k)
    by_test true e = f e
    by_test false e = g e

-- a description that is there opens its inode
pub opens_some : (k : Kernel) (d : ℕ) (it : Description) → get k.descriptions d ≡ Some it → 0 < openings k it.inode
opens_some k d it is =
    let all : weight (λ (v : Description). one v.inode it.inode) (get k.descriptions d) + openings (without_description d k) it.inode ≡ openings k it.inode = gone_openings k d it.inode in
    let here : weight (λ (v : Description). one v.inode it.inode) (get k.descriptions d) ≡ 1 = ap (weight (λ (v : Description). one v.inode it.inode)) is ∙ same_one it.inode in
    omega arith

opened_reached : (k : Kernel) (n : ℕ) → 0 < openings k n → is_reached k n ≡ true
opened_reached k n some = or_right (n == k.root) _ (or_right (nat_lt 0 (links k n)) _ (lt-ltb 0 (openings k n) some))

-- what tidying leaves its counts leave
pub left_is_counted : (k : Kernel) (n : ℕ) → reached k n ≡ true → is_reached k n ≡ true
left_is_counted k n is = either_of (n == k.root) (nat_lt 0 (links (without_descriptions k) n)) (nat_lt 0 (openings (without_descriptions k) n)) (is_reached k n ≡ true) is
    (λ root. or_left (n == k.root) _ root)
    (λ some. or_right (n == k.root) _ (or_left (nat_lt 0 (links k n)) _ (lt-ltb 0 (links k n) (subst (λ c. 0 < c) (same_links k n) (ltb-true 0 (links (without_descriptions k) n) some)))))
    (λ some. let o : IsOpen k n = opened_by k n (ltb-true 0 (openings (without_descriptions k) n) some) in subst (λ n. is_reached k n ≡ true) o.inode (opened_reached k o.it.inode (opens_some k o.description o.it o.is)))

-- tidying does not see that an object that nothing leads to is gone
description_gone : (k : Kernel) (d : ℕ) → is_held k d ≡ false → tidy (without_description d k) ≡ tidy k
description_gone k d loose = alike_tidied k (without_description d k) (record {
  root = refl;
  bounds = refl;
  processes = refl;
  made = refl;
  held = λ e held. removed_other k.descriptions d e (λ same. true_is_false (sym held ∙ ap (is_held k) same ∙ loose));
  links = gone_links k d;
  inodes = λ n _. (refl, refl);
})

inode_gone : (k : Kernel) (n : ℕ) → AreParented k → is_reached k n ≡ false → tidy (without_inode n k) ≡ tidy k
inode_gone k n parents loose = alike_tidied k (without_inode n k) (record {
  root = refl;
  bounds = refl;
  processes = refl;
  made = refl;
  held = λ e _. refl;
  links = removed_links k n (unreached_bare k n parents loose);
  inodes = λ m is.
      let away : m ≢ n = λ same. true_is_false (sym (left_is_counted k m is) ∙ ap (is_reached k) same ∙ loose) in
      (removed_other k.inodes n m away, removed_other k.rights n m away);
})

pub description_unseen : (k : Kernel) (d : ℕ) → tidy (free_description d k) ≡ tidy k
description_unseen k d = freed_description (λ s. tidy s ≡ tidy k) k d (λ _. refl) (description_gone k d)

pub inode_unseen : (k : Kernel) (n : ℕ) → AreParented k → tidy (free_inode n k) ≡ tidy k
inode_unseen k n parents = freed_inode (λ s. tidy s ≡ tidy k) k n (λ _. refl) (inode_gone k n parents)

-- no descriptor names what goes, so no end of a pipe goes
gone_ends : (k : Kernel) (d : ℕ) → is_held k d ≡ false → (p : ℕ) (mode : Description → Bool) → ends (without_description d k) p mode ≡ ends k p mode
unfolding ends
gone_ends k d loose p mode =
    sum-alike nat_cmp_total (λ process. held (without_description d k) p mode process.table) (λ process. held k p mode process.table) k.processes (λ pid process e.
    held-alike k (without_description d k) p mode process.table (λ f c is.
    ap (is_end mode p) (removed_other k.descriptions d c (λ same. true_is_false (sym (held_by k pid f c (ap (λ o. get (or_new o).table f) e ∙ is)) ∙ ap (is_held k) same ∙ loose)))))

pub freeing_counts_lem : FreeingCounts
freeing_counts_lem = record {
  description = λ k d loose n. freed_description (λ s. openings s n + opens n (get k.descriptions d) ≡ openings k n) k d (λ held. absurd (true_is_false (sym held ∙ loose))) (λ _. fewer_openings k d n);
  description_links = λ k d n. freed_description (λ s. links s n ≡ links k n) k d (λ _. refl) (λ _. gone_links k d n);
  description_holders = λ k d e. freed_description (λ s. holders s e ≡ holders k e) k d (λ _. refl) (λ _. gone_holders k d e);
  description_ends = λ k d p mode. freed_description (λ s. ends s p mode ≡ ends k p mode) k d (λ _. refl) (λ loose. gone_ends k d loose p mode);
  inode_links = λ k n m well. freed_inode (λ s. links s m ≡ links k m) k n (λ _. refl) (λ loose. removed_links k n (unreached_bare k n well.parents loose) m);
  inode_openings = λ k n m. freed_inode (λ s. openings s m ≡ openings k m) k n (λ _. refl) (λ _. inode_gone_openings k n m);
  inode_holders = λ k n d. freed_inode (λ s. holders s d ≡ holders k d) k n (λ _. refl) (λ _. inode_gone_holders k n d);
  inode_ends = λ k n p mode. freed_inode (λ s. ends s p mode ≡ ends k p mode) k n (λ _. refl) (λ _. inode_gone_ends k n p mode);
}

-- On the way to a tidied state: by the counts as they stand what nothing leads to is left to look at.
pub record Waits (end : Kernel) (ds ns : List ℕ) (k : Kernel) : Type 0 where
  pub tidied : tidy k ≡ end
  pub parents : AreParented k
  pub set : AreSet k
  pub descriptions : (d : ℕ) → get k.descriptions d ≢ None → (is_held k d ≡ true) ⊎ Has ds d
  pub inodes : (n : ℕ) → get k.inodes n ≢ None → (is_reached k n ≡ true) ⊎ Has ns n

left_there : {X : Type 0} (m : FinMap nat_cmp X) (n q : ℕ) → get (remove m n) q ≢ None → (q ≢ n) × (get m q ≢ None)
left_there m n q there = (
  λ same. there (ap (get (remove m n)) same ∙ removed_same m n),
  λ none. elim (cases_eq q n) [
    | inl same ↦ there (ap (get (remove m n)) same ∙ removed_same m n)
    | inr away ↦ there (removed_other m n q away ∙ none)
  ],
)

-- an inode is looked at
pub inode_waits : (end : Kernel) (ds ns : List ℕ) (n : ℕ) (k : Kernel) → Waits end ds (n ∷ ns) k → Waits end ds ns (free_inode n k)
inode_waits end ds ns n k w = freed_inode (Waits end ds ns) k n
    (λ is. record {
      tidied = w.tidied;
      parents = w.parents;
      set = w.set;
      descriptions = w.descriptions;
      inodes = λ m there. elim (cases_eq m n) [
        | inl same ↦ inl (ap (is_reached k) same ∙ is)
        | inr away ↦ elim (w.inodes m there) [ inl reached ↦ inl reached | inr has ↦ inr (has_rest m n ns (λ same. away (sym same)) has) ]
      ];
    })
    (λ loose. record {
      tidied = inode_gone k n w.parents loose ∙ w.tidied;
      parents = parents_left k n w.parents false loose;
      set = λ m none. elim (cases_eq m n) [
        | inl same ↦ ap (get (remove k.rights n)) same ∙ removed_same k.rights n
        | inr away ↦ removed_other k.rights n m away ∙ w.set m (sym (removed_other k.inodes n m away) ∙ none)
      ];
      descriptions = λ d there. elim (w.descriptions d there) [ inl held ↦ inl (ap (λ c. nat_lt 0 c) (inode_gone_holders k n d) ∙ held) | inr has ↦ inr has ];
      inodes = λ m there. let was = left_there k.inodes n m there in elim (w.inodes m was.1) [
        | inl is ↦ inl (same_reached k n (unreached_bare k n w.parents loose) m ∙ is)
        | inr has ↦ inr (has_rest m n ns (λ same. was.0 (sym same)) has)
      ];
    })

pub inodes_wait : (end : Kernel) (ds more ns : List ℕ) (k : Kernel) → Waits end ds (more ++ ns) k → Waits end ds ns (free_inodes more k)
inodes_wait end ds [] ns k w = w
inodes_wait end ds (n ∷ more) ns k w = inodes_wait end ds more ns (free_inode n k) (inode_waits end ds (more ++ ns) n k w)

-- the inode of a description that goes is looked at next
reached_by : (k : Kernel) (d n : ℕ) → is_reached k n ≡ true → (is_reached (without_description d k) n ≡ true) ⊎ Has (inode_in (get k.descriptions d)) n
reached_by k d n is = either_of (n == k.root) (nat_lt 0 (links k n)) (nat_lt 0 (openings k n)) ((is_reached (without_description d k) n ≡ true) ⊎ Has (inode_in (get k.descriptions d)) n) is
    (λ root. inl (or_left (n == k.root) _ root))
    (λ some. inl (or_right (n == k.root) _ (or_left (nat_lt 0 (links (without_description d k) n)) _ (ap (nat_lt 0) (gone_links k d n) ∙ some))))
    (λ some. elim (fewer (openings (without_description d k) n) (opens n (get k.descriptions d)) (openings k n) 0 (let e : openings (without_description d k) n + opens n (get k.descriptions d) ≡ openings k n = fewer_openings k d n in omega arith) (ltb-true 0 (openings k n) some)) [
      | inl still ↦ inl (opened_reached (without_description d k) n still)
      | inr gone ↦ inr (its n (get k.descriptions d) gone)
    ])
  where
    its : (n : ℕ) (o : Option Description) → 0 < opens n o → Has (inode_in o) n
    its n None some = absurd (omega arith)
    its n (Some it) some = some

pub description_waits : (end : Kernel) (ds ns : List ℕ) (d : ℕ) (k : Kernel) → Waits end (d ∷ ds) ns k → Waits end ds (inode_in (get k.descriptions d) ++ ns) (free_description d k)
description_waits end ds ns d k w = freed_description (Waits end ds (inode_in (get k.descriptions d) ++ ns)) k d
    (λ is. record {
      tidied = w.tidied;
      parents = w.parents;
      set = w.set;
      descriptions = λ e there. elim (cases_eq e d) [
        | inl same ↦ inl (ap (is_held k) same ∙ is)
        | inr away ↦ elim (w.descriptions e there) [ inl held ↦ inl held | inr has ↦ inr (has_rest e d ds (λ same. away (sym same)) has) ]
      ];
      inodes = λ n there. elim (w.inodes n there) [ inl reached ↦ inl reached | inr has ↦ inr (has_right n (inode_in (get k.descriptions d)) ns has) ];
    })
    (λ loose. record {
      tidied = description_gone k d loose ∙ w.tidied;
      parents = λ a x n e none. w.parents a x n e (sym (gone_links k d a) ∙ none);
      set = w.set;
      descriptions = λ e there. let was = left_there k.descriptions d e there in elim (w.descriptions e was.1) [
        | inl held ↦ inl (ap (nat_lt 0) (gone_holders k d e) ∙ held)
        | inr has ↦ inr (has_rest e d ds (λ same. was.0 (sym same)) has)
      ];
      inodes = λ n there. elim (w.inodes n there) [
        | inr has ↦ inr (has_right n (inode_in (get k.descriptions d)) ns has)
        | inl is ↦ elim (reached_by k d n is) [ inl still ↦ inl still | inr has ↦ inr (has_left n (inode_in (get k.descriptions d)) ns has) ]
      ];
    })

pub closed_waits : (end : Kernel) (ds ns : List ℕ) (k : Kernel) → Waits end ds ns k → Waits end [] ns (all_closed ds k)
closed_waits end [] ns k w = w
closed_waits end (d ∷ ds) ns k w = closed_waits end ds ns (closed d k) (inodes_wait end ds (inode_in (get k.descriptions d)) ns (free_description d k) (description_waits end ds ns d k w))

-- where each description is held, what the counts leave tidying leaves
named_is_left : (k : Kernel) (n : ℕ) → 0 < links k n → reached k n ≡ true
named_is_left k n some = rooted_reached k n (λ none. absurd (omega arith))

counted_is_left : (k : Kernel) (n : ℕ) → ((d : ℕ) → get k.descriptions d ≢ None → is_held k d ≡ true) → is_reached k n ≡ true → reached k n ≡ true
unfolding openings
counted_is_left k n all is = either_of (n == k.root) (nat_lt 0 (links k n)) (nat_lt 0 (openings k n)) (reached k n ≡ true) is
    (λ root. rooted_reached k n (λ _. eqb-true n k.root root))
    (λ some. named_is_left k n (ltb-true 0 (links k n) some))
    (λ some.
    let part : Part nat_cmp (λ (v : Description). cond (v.inode == n) 1 0) k.descriptions = some_part nat_cmp_total (λ (v : Description). cond (v.inode == n) 1 0) k.descriptions (ltb-true 0 _ some) in
    subst (λ n. reached k n ≡ true) (eqb-true part.value.inode n (one_some (part.value.inode == n) part.counts))
    (open_reached k part.key part.value (all part.key (λ none. not_none part.value (sym part.gives ∙ none))) part.gives))

-- nothing waits: it is tidied
done : (end k : Kernel) → Waits end [] [] k → k ≡ end
done end k w =
    let all : (d : ℕ) → get k.descriptions d ≢ None → is_held k d ≡ true = λ d there. elim (w.descriptions d there) [ inl held ↦ held | inr has ↦ absurd (none_stands d has) ] in
    covered_is_tidy nothing k w.parents w.set (record {
      descriptions = λ d there. inl (all d there);
      inodes = λ n there. elim (w.inodes n there) [ inl is ↦ inl (counted_is_left k n all is) | inr has ↦ absurd (none_stands n has) ];
    }) ∙ w.tidied
  where
    none_stands : (n : ℕ) → Has [] n → ⊥
    none_stands n has = absurd (let some : 0 < times n [] = has in omega arith)

-- to free in turn all that waits is to tidy
pub all_turned : (end : Kernel) (ds ns : List ℕ) (k : Kernel) → Waits end ds ns k → free_inodes ns (all_closed ds k) ≡ end
all_turned end ds ns k w =
    let closing : Waits end [] ns (all_closed ds k) = closed_waits end ds ns k w in
    let longer : Waits end [] (ns ++ []) (all_closed ds k) = record {
      tidied = closing.tidied;
      parents = closing.parents;
      set = closing.set;
      descriptions = closing.descriptions;
      inodes = λ n there. elim (closing.inodes n there) [ inl is ↦ inl is | inr has ↦ inr (has_left n ns [] has) ];
    } in
    done end (free_inodes ns (all_closed ds k)) (inodes_wait end [] ns [] (all_closed ds k) longer)

-- by the counts, what nothing leads to is among these inodes
abbrev pub Led : List ℕ → Kernel → Type 0
Led ns k = (n : ℕ) → get k.inodes n ≢ None → (is_reached k n ≡ true) ⊎ Has ns n

-- after an edit it is among them or has lost a name: openings never fall
pub edit_leads : (chosen : List ℕ) (k : Kernel) (e : Edit) (ns : List ℕ) → EditCounts chosen k e → Comes k (applied chosen e k) → Led ns k → Led (ns ++ unnamed e) (applied chosen e k)
edit_leads chosen k e ns counts comes led n there = elim (comes.inodes n there) [
  | inr is ↦ inl (left_is_counted after n is)
  | inl was ↦ elim (led n was) [
    | inr has ↦ inr (has_left n ns (unnamed e) has)
    | inl is ↦ either_of (n == k.root) (nat_lt 0 (links k n)) (nat_lt 0 (openings k n)) ((is_reached after n ≡ true) ⊎ Has (ns ++ unnamed e) n) is
        (λ root. inl (rooted_is_reached after n (λ _. eqb-true n k.root root ∙ sym comes.root)))
        (λ some. elim (fewer (links after n) (times n (unnamed e)) (links k n) (times n (named chosen e)) (counts.links n) (ltb-true 0 (links k n) some)) [
          | inl still ↦ inl (rooted_is_reached after n (λ none. absurd (omega arith)))
          | inr gone ↦ inr (has_right n ns (unnamed e) gone)
        ])
        (λ some.
        let before : 0 < openings k n = ltb-true 0 (openings k n) some in
        let more : openings after n ≡ openings k n + times n (opened chosen e) = counts.openings n in
        inl (opened_reached after n (omega arith)))
  ]
]
  where
    after : Kernel
    after = applied chosen e k

-- a state where all is led to, and the state after an edit of it
pub all_led : (k : Kernel) → Covers nothing k → Led [] k
all_led k covers n there = elim (covers.inodes n there) [ inl is ↦ inl (left_is_counted k n is) | inr has ↦ inr has ]

edit_waits : (chosen : List ℕ) (k : Kernel) (e : Edit) → EditCounts chosen k e → Comes k (applied chosen e k) → AreParented (applied chosen e k) → AreSet (applied chosen e k) → Covers nothing k → Waits (tidy (applied chosen e k)) (let_go k e) (unnamed e) (applied chosen e k)
edit_waits chosen k e counts comes parents set covers = record { tidied = refl; parents = parents; set = set; descriptions = (edit_covers chosen k e nothing counts comes covers).descriptions; inodes = edit_leads chosen k e [] counts comes (all_led k covers) }

pub turned_is_tidy : (chosen : List ℕ) (k : Kernel) (e : Edit) → EditCounts chosen k e → Comes k (applied chosen e k) → AreParented (applied chosen e k) → AreSet (applied chosen e k) → Covers nothing k → freed_in_turn chosen e k ≡ tidy (applied chosen e k)
turned_is_tidy chosen k e counts comes parents set covers = all_turned (tidy (applied chosen e k)) (let_go k e) (unnamed e) (applied chosen e k) (edit_waits chosen k e counts comes parents set covers)
