-- What freeing leaves of the objects that it looks at, and that it leaves what tidying leaves where it looks at all that is lost.
use Rattle.std.proofs.Common.{◌≡◌, ◌≢◌, ℕ, ◌+◌, ◌==◌, Bool, true, false, cond, ◌||◌, if◌then◌else◌, List, [], ◌∷◌, Option, Some, None, sum_by, refl, sym, ap, ◌∙◌, arith, ◌⊎◌, inl, inr, nat_cmp, nat_lt, lt-ltb, eq-eqb}
use Rattle.std.specs.Cmp.{nat_cmp_total}
use Rattle.std.specs.Cmp.Lexicographic.{nat_list_cmp_total}
use Rattle.std.proofs.lemmas.Bool.{cases_eq, or_left, or_right}
use Rattle.model.specs.FiniteMap.{FinMap, get, remove, retain_keys, values, same_map, nat_cmp-IsAntisymmetric}
use Rattle.model.specs.State.{Name, name_cmp, Kernel, Inode, Description, Rights, names_of, names_of_inode, links}
use Rattle.model.specs.Changes.{holders, openings, is_held, is_reached, without_descriptions, tidy}
use Rattle.model.proofs.Laws.{weight, sum-remove, given_in, weighed}
use Rattle.call_laws.proofs.Laws.{not_none, true_is_false, sum-zero, empty_gives, get_retained, removed_same, removed_other, reached}
use Rattle.freeing_laws.specs.Counts.{free_description, free_inode}
use Rattle.freeing_laws.specs.Sweep.{AreParented, AreSet, Lost, free_descriptions, free_inodes, swept}
use Rattle.freeing_laws.proofs.Times.{Has, has_rest}

pub removed_none : {X : Type 0} (m : FinMap nat_cmp X) (n q : ℕ) → get m q ≡ None → get (remove m n) q ≡ None
removed_none m n q e = elim (cases_eq q n) [
  | inl same ↦ ap (get (remove m n)) same ∙ removed_same m n
  | inr away ↦ removed_other m n q away ∙ e
]

-- descriptions: those that are held stay, and of the others those in the list go
pub record LeavesDescriptions (k : Kernel) (ds : List ℕ) (after : Kernel) : Type 0 where
  pub kept : FinMap nat_cmp Description
  pub is : after ≡ record k { descriptions = kept }
  pub held : (d : ℕ) → is_held k d ≡ true → get kept d ≡ get k.descriptions d
  pub gone : (d : ℕ) → is_held k d ≡ false → Has ds d → get kept d ≡ None
  pub none : (d : ℕ) → get k.descriptions d ≡ None → get kept d ≡ None

one_description : (k : Kernel) (d : ℕ) (ds : List ℕ) (after : Kernel) (b : Bool) → is_held k d ≡ b → LeavesDescriptions (if b then k else record k { descriptions = remove k.descriptions d }) ds after → LeavesDescriptions k (d ∷ ds) after
unfolding holders
one_description k d ds after true e rest = record {
  kept = rest.kept;
  is = rest.is;
  held = rest.held;
  gone = λ q loose has. rest.gone q loose (has_rest q d ds (λ same. true_is_false (sym e ∙ ap (is_held k) same ∙ loose)) has);
  none = rest.none;
}
one_description k d ds after false e rest = record {
  kept = rest.kept;
  is = rest.is;
  held = λ q fast. rest.held q fast ∙ removed_other k.descriptions d q (λ same. true_is_false (sym fast ∙ ap (is_held k) same ∙ e));
  gone = λ q loose has. elim (cases_eq q d) [
    | inl same ↦ rest.none q (ap (get (remove k.descriptions d)) same ∙ removed_same k.descriptions d)
    | inr away ↦ rest.gone q loose (has_rest q d ds (λ same. away (sym same)) has)
  ];
  none = λ q e. rest.none q (removed_none k.descriptions d q e);
}

pub freeing_descriptions : (ds : List ℕ) (k : Kernel) → LeavesDescriptions k ds (free_descriptions ds k)
unfolding free_description
freeing_descriptions [] k = record { kept = k.descriptions; is = refl; held = λ d h. refl; gone = λ d h has. absurd (omega arith); none = λ d e. e }
freeing_descriptions (d ∷ ds) k = one_description k d ds (free_descriptions ds (free_description d k)) (is_held k d) refl (freeing_descriptions ds (free_description d k))

pub rooted_is_reached : (k : Kernel) (n : ℕ) → (links k n ≡ 0 → n ≡ k.root) → is_reached k n ≡ true
rooted_is_reached k n h = elim (cases_eq (links k n) 0) [
  | inl none ↦ or_left (n == k.root) _ (eq-eqb n k.root (h none))
  | inr some ↦ or_right (n == k.root) _ (or_left (nat_lt 0 (links k n)) _ (lt-ltb 0 (links k n) (omega arith)))
]

pub unreached_bare : (k : Kernel) (n : ℕ) → AreParented k → is_reached k n ≡ false → (x : Name) (m : ℕ) → get (names_of k n) x ≢ Some m
unreached_bare k n parents e x m is = true_is_false (sym (rooted_is_reached k n (parents n x m is)) ∙ e)

abbrev pub without_inode : ℕ → Kernel → Kernel
without_inode n k = record k { inodes = remove k.inodes n; rights = remove k.rights n }

-- what has no names in it counts nowhere
pub removed_links : (k : Kernel) (n : ℕ) → ((x : Name) (m : ℕ) → get (names_of k n) x ≢ Some m) → (m : ℕ) → links (without_inode n k) m ≡ links k m
unfolding links
removed_links k n bare m =
    let all : weight (λ inode. given_in m (names_of_inode (Some inode))) (get k.inodes n) + sum_by (λ inode. given_in m (names_of_inode (Some inode))) (values (remove k.inodes n)) ≡ links k m = sum-remove nat_cmp_total nat_cmp-IsAntisymmetric (λ inode. given_in m (names_of_inode (Some inode))) k.inodes n in
    let part : weight (λ inode. given_in m (names_of_inode (Some inode))) (get k.inodes n) ≡ given_in m (names_of k n) = weighed m (get k.inodes n) in
    let none : given_in m (names_of k n) ≡ 0 = sum-zero nat_list_cmp_total (λ v. cond (v == m) 1 0) (names_of k n) (λ x v is. absurd (bare x v is)) in
    omega arith

pub same_reached : (k : Kernel) (n : ℕ) → ((x : Name) (m : ℕ) → get (names_of k n) x ≢ Some m) → (m : ℕ) → is_reached (without_inode n k) m ≡ is_reached k m
unfolding openings
same_reached k n bare m = ap (λ c. (m == k.root) || (nat_lt 0 c || nat_lt 0 (openings k m))) (removed_links k n bare m)

-- inodes: those that are reached stay, and of the others those in the list go
pub record LeavesInodes (k : Kernel) (ns : List ℕ) (after : Kernel) : Type 0 where
  pub kept : FinMap nat_cmp Inode
  pub set : FinMap nat_cmp Rights
  pub is : after ≡ record k { inodes = kept; rights = set }
  pub reached : (n : ℕ) → is_reached k n ≡ true → get kept n ≡ get k.inodes n
  pub gone : (n : ℕ) → is_reached k n ≡ false → Has ns n → get kept n ≡ None
  pub none : (n : ℕ) → get k.inodes n ≡ None → get kept n ≡ None
  pub set_reached : (n : ℕ) → is_reached k n ≡ true → get set n ≡ get k.rights n
  pub set_gone : (n : ℕ) → is_reached k n ≡ false → Has ns n → get set n ≡ None
  pub set_none : (n : ℕ) → get k.rights n ≡ None → get set n ≡ None

one_inode : (k : Kernel) (n : ℕ) (ns : List ℕ) (after : Kernel) → AreParented k → (b : Bool) → is_reached k n ≡ b → LeavesInodes (if b then k else without_inode n k) ns after → LeavesInodes k (n ∷ ns) after
one_inode k n ns after parents true e rest = record {
  kept = rest.kept;
  set = rest.set;
  is = rest.is;
  reached = rest.reached;
  gone = λ q loose has. rest.gone q loose (has_rest q n ns (λ same. true_is_false (sym e ∙ ap (is_reached k) same ∙ loose)) has);
  none = rest.none;
  set_reached = rest.set_reached;
  set_gone = λ q loose has. rest.set_gone q loose (has_rest q n ns (λ same. true_is_false (sym e ∙ ap (is_reached k) same ∙ loose)) has);
  set_none = rest.set_none;
}
one_inode k n ns after parents false e rest =
    let same_test : (m : ℕ) → is_reached (without_inode n k) m ≡ is_reached k m = same_reached k n (unreached_bare k n parents e) in
    record {
      kept = rest.kept;
      set = rest.set;
      is = rest.is;
      reached = λ q fast. rest.reached q (same_test q ∙ fast) ∙ removed_other k.inodes n q (λ same. true_is_false (sym fast ∙ ap (is_reached k) same ∙ e));
      gone = λ q loose has. elim (cases_eq q n) [
        | inl same ↦ rest.none q (ap (get (remove k.inodes n)) same ∙ removed_same k.inodes n)
        | inr away ↦ rest.gone q (same_test q ∙ loose) (has_rest q n ns (λ same. away (sym same)) has)
      ];
      none = λ q e. rest.none q (removed_none k.inodes n q e);
      set_reached = λ q fast. rest.set_reached q (same_test q ∙ fast) ∙ removed_other k.rights n q (λ same. true_is_false (sym fast ∙ ap (is_reached k) same ∙ e));
      set_gone = λ q loose has. elim (cases_eq q n) [
        | inl same ↦ rest.set_none q (ap (get (remove k.rights n)) same ∙ removed_same k.rights n)
        | inr away ↦ rest.set_gone q (same_test q ∙ loose) (has_rest q n ns (λ same. away (sym same)) has)
      ];
      set_none = λ q e. rest.set_none q (removed_none k.rights n q e);
    }

pub parents_left : (k : Kernel) (n : ℕ) → AreParented k → (b : Bool) → is_reached k n ≡ b → AreParented (if b then k else without_inode n k)
parents_left k n parents true e = parents
parents_left k n parents false e = λ d x m is none. elim (cases_eq d n) [
  | inl same ↦ absurd (empty_gives name_cmp x m (sym (ap (λ o. get (names_of_inode o) x) (ap (get (remove k.inodes n)) same ∙ removed_same k.inodes n)) ∙ is))
  | inr away ↦ parents d x m (ap (λ o. get (names_of_inode o) x) (sym (removed_other k.inodes n d away)) ∙ is) (sym (removed_links k n (unreached_bare k n parents e) d) ∙ none)
]

-- what is freed leaves the others' names as they are
pub parents_freed : (k : Kernel) (n : ℕ) → AreParented k → AreParented (free_inode n k)
unfolding free_inode
parents_freed k n parents = parents_left k n parents (is_reached k n) refl

pub freeing_inodes : (ns : List ℕ) (k : Kernel) → AreParented k → LeavesInodes k ns (free_inodes ns k)
unfolding free_inode
freeing_inodes [] k parents = record {
  kept = k.inodes;
  set = k.rights;
  is = refl;
  reached = λ n h. refl;
  gone = λ n h has. absurd (omega arith);
  none = λ n e. e;
  set_reached = λ n h. refl;
  set_gone = λ n h has. absurd (omega arith);
  set_none = λ n e. e;
}
freeing_inodes (n ∷ ns) k parents = one_inode k n ns (free_inodes ns (free_inode n k)) parents (is_reached k n) refl (freeing_inodes ns (free_inode n k) (parents_left k n parents (is_reached k n) refl))

-- the lists have all that nothing leads to
pub record Covers (lost : Lost) (k : Kernel) : Type 0 where
  pub descriptions : (d : ℕ) → get k.descriptions d ≢ None → (is_held k d ≡ true) ⊎ Has lost.descriptions d
  pub inodes : (n : ℕ) → get k.inodes n ≢ None → (reached k n ≡ true) ⊎ Has lost.inodes n

-- a map whose entries pass the test, or are gone
retained : {X : Type 0} (m kept : FinMap nat_cmp X) (p : ℕ → Bool) → ((n : ℕ) → p n ≡ true → get kept n ≡ get m n) → ((n : ℕ) → p n ≡ false → get m n ≢ None → get kept n ≡ None) → ((n : ℕ) → get m n ≡ None → get kept n ≡ None) → kept ≡ retain_keys m p
retained {X} m kept p stays goes none = same_map nat_cmp_total nat_cmp-IsAntisymmetric kept (retain_keys m p) (λ n. within n (p n) refl (get m n) refl ∙ sym (get_retained m p n))
  where
    within : (n : ℕ) (b : Bool) → p n ≡ b → (o : Option X) → get m n ≡ o → get kept n ≡ cond b (get m n) None
    within n true e o is = stays n e
    within n false e None is = none n is
    within n false e (Some x) is = goes n e (λ no. not_none x (sym is ∙ no))

-- to free these is to tidy
pub covered_is_tidy : (lost : Lost) (k : Kernel) → AreParented k → AreSet k → Covers lost k → swept lost k ≡ tidy k
unfolding tidy links
covered_is_tidy lost k parents sets covers =
    let first : LeavesDescriptions k lost.descriptions (free_descriptions lost.descriptions k) = freeing_descriptions lost.descriptions k in
    let described : first.kept ≡ retain_keys k.descriptions (is_held k) = retained k.descriptions first.kept (is_held k) first.held
    (λ d loose there. elim (covers.descriptions d there) [ inl fast ↦ absurd (true_is_false (sym fast ∙ loose)) | inr has ↦ first.gone d loose has ]) first.none in
    let second : LeavesInodes (without_descriptions k) lost.inodes (free_inodes lost.inodes (without_descriptions k)) = freeing_inodes lost.inodes (without_descriptions k) parents in
    let kept : second.kept ≡ retain_keys k.inodes (reached k) = retained k.inodes second.kept (reached k) second.reached
    (λ n loose there. elim (covers.inodes n there) [ inl fast ↦ absurd (true_is_false (sym fast ∙ loose)) | inr has ↦ second.gone n loose has ]) second.none in
    let set : second.set ≡ retain_keys k.rights (reached k) = retained k.rights second.set (reached k) second.set_reached
    (λ n loose there. elim (covers.inodes n (λ none. there (sets n none))) [ inl fast ↦ absurd (true_is_false (sym fast ∙ loose)) | inr has ↦ second.set_gone n loose has ]) second.set_none in
    ap (free_inodes lost.inodes) (first.is ∙ (λ i. record k { descriptions = described i })) ∙ second.is ∙ (λ i. record (without_descriptions k) { inodes = kept i; rights = set i })
