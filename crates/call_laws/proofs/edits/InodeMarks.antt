-- A change of names or contents changes only what it marks.
use Rattle.std.proofs.Common.{◌≡◌, ◌≢◌, ℕ, ◌+◌, ◌-◌, ◌/◌, ◌≤◌, Bool, true, false, cond, List, [], ◌∷◌, ◌++◌, map, length, get_or, max, replicate, Option, Some, None, ◌==◌, nat_lt, if◌then◌else◌, refl, sym, ap, ap₂, subst, ◌∙◌, inl, inr, arith, append-nil, append_assoc, ne_eqb, eqb→eq, T, ltb-false}
use Rattle.std.specs.Prelude.{⊤}
use Rattle.std.specs.Ordering.{eq_by_cmp}
use Rattle.std.specs.List.{AllByRecursion}
use Rattle.model.specs.FiniteMap.{FinMap, get, keys, insert, remove, get-remove}
use Rattle.std.specs.Cmp.Lexicographic.{nat_list_cmp_total}
use Rattle.std.proofs.lemmas.Bool.{cases_eq, cases_lt, false_from_ne_true}
use Rattle.std.proofs.lemmas.List.{get_or_past, length-replicate}
use Rattle.model.specs.State.{Name, name_cmp, Kind, A_file, A_directory, A_pipe, A_link, A_fifo, A_socket, Kernel, Inode, File, Directory, Pipe, kind, mapped, names_of, file_of, pipe_of, target_of, kind_of, entry_of, links, ends, file_of_inode, pipe_of_inode, target_of_inode, rights_or}
use Rattle.model.specs.Aspects.{Aspect, Entry, Names, Size, Block, Links, Ends, Offset, Front, Back, Target, Rights, SameBlock, Keeps}
use Rattle.model.specs.Plan.{blocks}
use Rattle.model.specs.Changes.{Put_bytes, Wipe, Cut, marks, set_inode, set_name, clear_name, sized, written, file_replaced}
use Rattle.model.specs.Changes.{Replaced, Over_nothing, Over_file, Over_directory}
use Rattle.model.specs.Steps.{IsNowhere}
use Rattle.call_laws.specs.Objects.{IsThere, LeavesAlone}
use Rattle.call_laws.specs.WellFormed.{CanBeLinked, CanBeNamed}
use Rattle.call_laws.specs.Fits.{CanBeReplaced}
use Rattle.model.proofs.Laws.{all-append, all-map, in_blocks, name_exact, tie, unchanged_by, length-sized, sized_at, length-written}
use Rattle.call_laws.proofs.edits.Names.{with_kind, has_names, one, counted, links_named, links_unnamed, entry_named, entry_unnamed, entry_there}
use Rattle.call_laws.proofs.edits.Contents.{here_by, there_by, HasBytes, has_bytes, entry_same, no_names_file, no_names_pipe, no_pipe_file, no_file_pipe, no_target_file, no_target_pipe}
use Rattle.call_laws.proofs.edits.Blocks.{cut_past, other_block}
use Rattle.call_laws.proofs.Maps.{some_same}
use Rattle.call_laws.proofs.edits.NamesAlike.{IsNew, not_new, kept_kind}

pub keeps_on : (k mid after : Kernel) (a : Aspect) → Keeps k mid a → Keeps mid after a → Keeps k after a
keeps_on k mid after (Entry d x) f g = g ∙ f
keeps_on k mid after (Names d) f g = g ∙ f
keeps_on k mid after (Size n) f g = g ∙ f
keeps_on k mid after (Block n block) f g = λ i is. g i is ∙ f i is
keeps_on k mid after (Links n) f g = g ∙ f
keeps_on k mid after (Ends p) f g = (g.0 ∙ f.0, g.1 ∙ f.1)
keeps_on k mid after (Offset d) f g = g ∙ f
keeps_on k mid after (Front p) f g = (f.0 ++ g.0, g.1 ∙ ap (λ bytes. bytes ++ g.0) f.1 ∙ append_assoc (pipe_of k p) f.0 g.0)
keeps_on k mid after (Back p) f g = (f.0 ++ g.0, f.1 ∙ ap (λ bytes. f.0 ++ bytes) g.1 ∙ sym (append_assoc f.0 g.0 (pipe_of after p)))
keeps_on k mid after (Target n) f g = g ∙ f
keeps_on k mid after (Rights n) f g = g ∙ f

-- a state keeps all aspects of its own
pub keeps_self : (k : Kernel) (a : Aspect) → Keeps k k a
keeps_self k (Entry d x) = refl
keeps_self k (Names d) = refl
keeps_self k (Size n) = refl
keeps_self k (Block n block) = λ i is. refl
keeps_self k (Links n) = refl
keeps_self k (Ends p) = (refl, refl)
keeps_self k (Offset d) = refl
keeps_self k (Front p) = ([], sym (append-nil (pipe_of k p)))
keeps_self k (Back p) = ([], refl)
keeps_self k (Target n) = refl
keeps_self k (Rights n) = refl

-- kinds alone differ, and not of what is named
kinds_alike : (k after : Kernel) (n : ℕ) → ((t : ℕ) → t ≢ n → kind_of after t ≡ kind_of k t) → (o : Option ℕ) → (o ≢ Some n) → with_kind after o ≡ with_kind k o
kinds_alike k after n same None h = refl
kinds_alike k after n same (Some t) h = λ i. Some (t, same t (λ e. h (ap Some e)) i)

pub new_marks : (k : Kernel) (n : ℕ) (new : Inode) → IsNowhere k n → IsNew k (set_inode n new k) n (kind new) → (a : Aspect) → IsThere k a → Keeps k (set_inode n new k) a
unfolding ends
new_marks k n new nowhere f (Entry d x) there = ap (λ (ns : FinMap name_cmp ℕ). with_kind (set_inode n new k) (get ns x)) (f.names d) ∙ kinds_alike k (set_inode n new k) n f.there (get (names_of k d) x) (nowhere.unnamed d x)
new_marks k n new nowhere f (Names d) there = ap keys (f.names d)
new_marks k n new nowhere f (Size m) there = ap length (f.files m)
new_marks k n new nowhere f (Block m block) there = λ i is. ap (λ bytes. get_or bytes i 0) (f.files m)
new_marks k n new nowhere f (Links m) there = f.links m
new_marks k n new nowhere f (Ends p) there = (refl, refl)
new_marks k n new nowhere f (Offset d) there = refl
new_marks k n new nowhere f (Front p) there = ([], f.pipes p ∙ sym (append-nil (pipe_of k p)))
new_marks k n new nowhere f (Back p) there = ([], sym (f.pipes p))
new_marks k n new nowhere f (Target m) there = there_by target_of_inode k n new m (not_new k n m A_link nowhere.inode there)
new_marks k n new nowhere f (Rights m) there = ap (rights_or (get k.rights m)) (f.there m (λ same. there (ap (kind_of k) same ∙ ap (mapped kind) nowhere.inode)))

-- what is asked where the aspect is of links
abbrev pub ForLinks : Aspect → (ℕ → Type 0) → Type 0
ForLinks (Links m) P = P m
ForLinks _ P = ⊤

pub for_links : (a : Aspect) (P : ℕ → Type 0) → ((m : ℕ) → a ≡ Links m → P m) → ForLinks a P
for_links (Links m) P h = h m refl
for_links a P h = tt

-- an edit of one name leaves the other names alone
names_mark : (k : Kernel) (d : ℕ) (x : Name) (names : FinMap name_cmp ℕ) → kind_of k d ≡ Some A_directory
    → ((y : Name) → y ≢ x → entry_of (set_inode d (Directory names) k) d y ≡ entry_of k d y)
    → (a : Aspect) → ForLinks a (λ m. links (set_inode d (Directory names) k) m ≡ links k m) → LeavesAlone (Entry d x) a → Keeps k (set_inode d (Directory names) k) a
unfolding ends
names_mark k d x names is other (Entry t y) counts alone =
    elim (cases_eq t d) [
      | inl e ↦ ap (λ t. entry_of (set_inode d (Directory names) k) t y) e ∙ other y (λ same. alone (ap₂ Entry (sym e) (sym same))) ∙ ap (λ t. entry_of k t y) (sym e)
      | inr away ↦ entry_there k _ d names (has_names k d names is) t away y
    ]
names_mark k d x names is other (Names t) counts alone = ap keys ((has_names k d names is).there t (λ e. alone (sym e)))
names_mark k d x names is other (Size m) counts alone = ap length ((has_names k d names is).files m)
names_mark k d x names is other (Block m block) counts alone = λ i e. ap (λ bytes. get_or bytes i 0) ((has_names k d names is).files m)
names_mark k d x names is other (Links m) counts alone = counts
names_mark k d x names is other (Ends p) counts alone = (refl, refl)
names_mark k d x names is other (Offset t) counts alone = refl
names_mark k d x names is other (Front p) counts alone = ([], (has_names k d names is).pipes p ∙ sym (append-nil (pipe_of k p)))
names_mark k d x names is other (Back p) counts alone = ([], sym ((has_names k d names is).pipes p))
names_mark k d x names is other (Target m) counts alone = (has_names k d names is).targets m
names_mark k d x names is other (Rights m) counts alone = ap (rights_or (get k.rights m)) ((has_names k d names is).kinds m)

-- a test of two names that differ
pub names_apart : (y x : Name) → y ≢ x → eq_by_cmp name_cmp y x ≡ false
names_apart y x h = false_from_ne_true (eq_by_cmp name_cmp y x) (λ e. h (name_exact y x (tie (name_cmp y x) e)))

-- what may have several names is no directory, may be named, and is of some kind
pub linked_is_other : (k : Kernel) (n m : ℕ) → kind_of k n ≡ Some A_directory → CanBeLinked (kind_of k m) → n ≢ m
linked_is_other k n m e f same = subst CanBeLinked (sym (ap (kind_of k) same) ∙ e) f

pub linked_named : (o : Option Kind) → CanBeLinked o → CanBeNamed o
linked_named (Some A_file) h = tt
linked_named (Some A_link) h = tt
linked_named (Some A_fifo) h = tt
linked_named (Some A_socket) h = tt
linked_named o h = absurd h

pub some_linked : (o : Option Kind) → CanBeLinked o → (what : Kind) × (o ≡ Some what)
some_linked (Some what) h = (what, refl)
some_linked None h = absurd h

linked_not_new : (k : Kernel) (n m : ℕ) → get k.inodes n ≡ None → CanBeLinked (kind_of k m) → n ≢ m
linked_not_new k n m none linked same = subst CanBeLinked (ap (kind_of k) (sym same) ∙ ap (mapped kind) none) linked

pub not_counted : (n m : ℕ) → n ≢ m → one n m ≡ 0
not_counted n m h = ap (λ b. cond b 1 0) (ne_eqb n m h)

-- a name that comes
pub named_mark : (k : Kernel) (d : ℕ) (x : Name) (n : ℕ) → kind_of k d ≡ Some A_directory
    → (a : Aspect) → ForLinks a (λ m. links (set_name d x n k) m ≡ links k m) → LeavesAlone (Entry d x) a → Keeps k (set_name d x n k) a
named_mark k d x n is = names_mark k d x (insert (names_of k d) x n) is (λ y away. entry_named k d x n is y ∙ ap (λ b. cond b (Some (n, kind_of k n)) (entry_of k d y)) (names_apart y x away))

-- a name that goes
pub unnamed_mark : (k : Kernel) (d : ℕ) (x : Name) → kind_of k d ≡ Some A_directory
    → (a : Aspect) → ForLinks a (λ m. links (clear_name d x k) m ≡ links k m) → LeavesAlone (Entry d x) a → Keeps k (clear_name d x k) a
unnamed_mark k d x is = names_mark k d x (remove (names_of k d) x) is (λ y away. entry_unnamed k d x is y ∙ ap (λ b. cond b None (entry_of k d y)) (names_apart y x away))

pub same_when_named : (k : Kernel) (d : ℕ) (x : Name) (n m : ℕ) → kind_of k d ≡ Some A_directory → get (names_of k d) x ≡ None → n ≢ m → links (set_name d x n k) m ≡ links k m
same_when_named k d x n m is free away =
    let moved : links (set_name d x n k) m + counted m (get (names_of k d) x) ≡ links k m + one n m = links_named k d x n is m in
    let none : counted m (get (names_of k d) x) ≡ 0 = ap (counted m) free in
    let other : one n m ≡ 0 = not_counted n m away in
    omega arith

pub same_when_unnamed : (k : Kernel) (d : ℕ) (x : Name) (n m : ℕ) → kind_of k d ≡ Some A_directory → get (names_of k d) x ≡ Some n → n ≢ m → links (clear_name d x k) m ≡ links k m
same_when_unnamed k d x n m is gives away =
    let moved : links (clear_name d x k) m + counted m (get (names_of k d) x) ≡ links k m = links_unnamed k d x is m in
    let none : counted m (get (names_of k d) x) ≡ 0 = ap (counted m) gives ∙ not_counted n m away in
    omega arith

-- a new inode with its name
pub made_marks : (k : Kernel) (d : ℕ) (x : Name) (n : ℕ) (new : Inode) → IsNowhere k n → IsNew k (set_inode n new k) n (kind new) → kind_of k d ≡ Some A_directory → get (names_of k d) x ≡ None
    → (a : Aspect) → IsThere k a → LeavesAlone (Entry d x) a → Keeps k (set_name d x n (set_inode n new k)) a
made_marks k d x n new nowhere f is free a there alone =
    let mid : kind_of (set_inode n new k) d ≡ Some A_directory = kept_kind k n d new A_directory nowhere.inode is in
    keeps_on k (set_inode n new k) (set_name d x n (set_inode n new k)) a (new_marks k n new nowhere f a there)
    (named_mark (set_inode n new k) d x n mid a (for_links a (λ m. links (set_name d x n (set_inode n new k)) m ≡ links (set_inode n new k) m) (λ m e.
    same_when_named (set_inode n new k) d x n m mid (ap (λ (ns : FinMap name_cmp ℕ). get ns x) (f.names d) ∙ free) (linked_not_new k n m nowhere.inode (subst (IsThere k) e there)))) alone)

-- what stood where a name is moved to does not lose a link, where it is not marked
not_replaced : (k : Kernel) (n m : ℕ) (old : Option ℕ) (replaced : Replaced) → CanBeReplaced k n old replaced → CanBeLinked (kind_of k m) → AllByRecursion (λ w. LeavesAlone w (Links m)) (map Links (file_replaced replaced)) → counted m old ≡ 0
not_replaced k n m None replaced can is alone = refl
not_replaced k n m (Some t) (Over_directory r) can is alone = not_counted t m (linked_is_other k t m can.1 is)
not_replaced k n m (Some t) (Over_file r) can is alone = not_counted t m (λ same. alone.0 (ap Links (can.2 ∙ same)))
not_replaced k n m (Some t) Over_nothing can is alone = absurd can

-- a name that moves
pub moved_marks : (k : Kernel) (d : ℕ) (x : Name) (e : ℕ) (y : Name) (n : ℕ) (old : Option ℕ) (replaced : Replaced) → kind_of k d ≡ Some A_directory → kind_of k e ≡ Some A_directory
    → get (names_of k d) x ≡ Some n → get (names_of (clear_name d x k) e) y ≡ old → CanBeReplaced k n old replaced
    → (a : Aspect) → IsThere k a → LeavesAlone (Entry d x) a → LeavesAlone (Entry e y) a → AllByRecursion (λ w. LeavesAlone w a) (map Links (file_replaced replaced)) → Keeps k (set_name e y n (clear_name d x k)) a
moved_marks k d x e y n old replaced f g gives was can (Links m) there one_alone two_alone alone =
    let gone : links (clear_name d x k) m + counted m (get (names_of k d) x) ≡ links k m = links_unnamed k d x f m in
    let gone_here : counted m (get (names_of k d) x) ≡ one n m = ap (counted m) gives in
    let come : links (set_name e y n (clear_name d x k)) m + counted m (get (names_of (clear_name d x k) e) y) ≡ links (clear_name d x k) m + one n m = links_named (clear_name d x k) e y n ((has_names k d (remove (names_of k d) x) f).kinds e ∙ g) m in
    let none : counted m (get (names_of (clear_name d x k) e) y) ≡ 0 = ap (counted m) was ∙ not_replaced k n m old replaced can there alone in
    omega arith
moved_marks k d x e y n old replaced f g gives was can a there one_alone two_alone alone =
    keeps_on k (clear_name d x k) (set_name e y n (clear_name d x k)) a (unnamed_mark k d x f a tt one_alone)
    (named_mark (clear_name d x k) e y n ((has_names k d (remove (names_of k d) x) f).kinds e ∙ g) a tt two_alone)

-- the other name is as before, since it does not give the same
pub still_gives : (k : Kernel) (d : ℕ) (x : Name) (e : ℕ) (y : Name) (n : ℕ) (old : Option ℕ) → kind_of k d ≡ Some A_directory → get (names_of k d) x ≡ Some n → get (names_of k e) y ≡ old → old ≢ Some n → get (names_of (clear_name d x k) e) y ≡ old
still_gives k d x e y n old is gives was away =
    elim (cases_eq e d) [
      | inl same ↦ ap (λ e. get (names_of (clear_name d x k) e) y) same ∙ ap (λ (ns : FinMap name_cmp ℕ). get ns y) (has_names k d (remove (names_of k d) x) is).here
          ∙ get-remove nat_list_cmp_total (names_of k d) x y
          ∙ ap (λ b. cond b None (get (names_of k d) y)) (names_apart y x (λ names. away (sym was ∙ ap (λ e. get (names_of k e) y) same ∙ ap (get (names_of k d)) names ∙ gives)))
          ∙ ap (λ d. get (names_of k d) y) (sym same) ∙ was
      | inr other ↦ ap (λ (ns : FinMap name_cmp ℕ). get ns y) ((has_names k d (remove (names_of k d) x) is).there e other) ∙ was
    ]

pub other_old : (k : Kernel) (n : ℕ) (old : Option ℕ) (replaced : Replaced) → CanBeReplaced k n old replaced → old ≢ Some n
other_old k n None replaced can e = absurd cc
other_old k n (Some m) (Over_directory r) can e = can.0 (sym (some_same m n e))
other_old k n (Some m) (Over_file r) can e = can.0 (sym (some_same m n e))
other_old k n (Some m) Over_nothing can e = absurd can

-- a file's new bytes
file_marks : (k : Kernel) (n : ℕ) (new : List ℕ) → kind_of k n ≡ Some A_file → (a : Aspect) → (a ≡ Size n → length new ≡ length (file_of k n)) → ((block : ℕ) → a ≡ Block n block → SameBlock block new (file_of k n)) → Keeps k (set_inode n (File new) k) a
unfolding ends
file_marks k n new is a long same = by_aspect a long same
  where
    has : HasBytes k (set_inode n (File new) k)
    has = has_bytes k n (File new) (sym is) refl (no_names_file _ is)

    pipes : (t : ℕ) → pipe_of (set_inode n (File new) k) t ≡ pipe_of k t
    pipes = unchanged_by pipe_of_inode k n (File new) (no_pipe_file _ is)

    targets : (t : ℕ) → target_of (set_inode n (File new) k) t ≡ target_of k t
    targets = unchanged_by target_of_inode k n (File new) (no_target_file _ is)

    by_aspect : (a : Aspect) → (a ≡ Size n → length new ≡ length (file_of k n)) → ((block : ℕ) → a ≡ Block n block → SameBlock block new (file_of k n)) → Keeps k (set_inode n (File new) k) a
    by_aspect (Entry d x) long same = entry_same k _ has d x
    by_aspect (Names d) long same = ap keys (has.names d)
    by_aspect (Links m) long same = has.links m
    by_aspect (Ends q) long same = (refl, refl)
    by_aspect (Offset d) long same = refl
    by_aspect (Target m) long same = targets m
    by_aspect (Rights m) long same = ap (rights_or (get k.rights m)) (has.kinds m)
    by_aspect (Front q) long same = ([], pipes q ∙ sym (append-nil (pipe_of k q)))
    by_aspect (Back q) long same = ([], sym (pipes q))
    by_aspect (Size m) long same = elim (cases_eq m n) [
      | inl e ↦ ap length (here_by file_of_inode k n (File new) m e) ∙ long (ap Size e) ∙ ap (λ m. length (file_of k m)) (sym e)
      | inr away ↦ ap length (there_by file_of_inode k n (File new) m away)
    ]
    by_aspect (Block m block) long same = elim (cases_eq m n) [
      | inl e ↦ λ i at. ap (λ b. get_or b i 0) (here_by file_of_inode k n (File new) m e) ∙ same block (ap (λ m. Block m block) e) i at ∙ ap (λ m. get_or (file_of k m) i 0) (sym e)
      | inr away ↦ λ i at. ap (λ b. get_or b i 0) (there_by file_of_inode k n (File new) m away)
    ]

-- a pipe's new bytes
pub pipe_marks : (k : Kernel) (p : ℕ) (new : List ℕ) → kind_of k p ≡ Some A_pipe → (a : Aspect)
    → (a ≡ Front p → (more : List ℕ) × (new ≡ pipe_of k p ++ more)) → (a ≡ Back p → (gone : List ℕ) × (pipe_of k p ≡ gone ++ new)) → Keeps k (set_inode p (Pipe new) k) a
unfolding ends
pipe_marks k p new is a front back = by_aspect a front back
  where
    has : HasBytes k (set_inode p (Pipe new) k)
    has = has_bytes k p (Pipe new) (sym is) refl (no_names_pipe _ is)

    files : (t : ℕ) → file_of (set_inode p (Pipe new) k) t ≡ file_of k t
    files = unchanged_by file_of_inode k p (Pipe new) (no_file_pipe _ is)

    targets : (t : ℕ) → target_of (set_inode p (Pipe new) k) t ≡ target_of k t
    targets = unchanged_by target_of_inode k p (Pipe new) (no_target_pipe _ is)

    by_aspect : (a : Aspect) → (a ≡ Front p → (more : List ℕ) × (new ≡ pipe_of k p ++ more)) → (a ≡ Back p → (gone : List ℕ) × (pipe_of k p ≡ gone ++ new)) → Keeps k (set_inode p (Pipe new) k) a
    by_aspect (Entry d x) front back = entry_same k _ has d x
    by_aspect (Names d) front back = ap keys (has.names d)
    by_aspect (Links m) front back = has.links m
    by_aspect (Ends q) front back = (refl, refl)
    by_aspect (Offset d) front back = refl
    by_aspect (Target m) front back = targets m
    by_aspect (Rights m) front back = ap (rights_or (get k.rights m)) (has.kinds m)
    by_aspect (Size m) front back = ap length (files m)
    by_aspect (Block m block) front back = λ i at. ap (λ b. get_or b i 0) (files m)
    by_aspect (Front q) front back = elim (cases_eq q p) [
      | inl e ↦ let kept = front (ap Front e) in (kept.0, here_by pipe_of_inode k p (Pipe new) q e ∙ kept.1 ∙ ap (λ q. pipe_of k q ++ kept.0) (sym e))
      | inr away ↦ ([], there_by pipe_of_inode k p (Pipe new) q away ∙ sym (append-nil (pipe_of k q)))
    ]
    by_aspect (Back q) front back = elim (cases_eq q p) [
      | inl e ↦ let kept = back (ap Back e) in (kept.0, ap (pipe_of k) e ∙ kept.1 ∙ ap (λ b. kept.0 ++ b) (sym (here_by pipe_of_inode k p (Pipe new) q e)))
      | inr away ↦ ([], sym (there_by pipe_of_inode k p (Pipe new) q away))
    ]

-- a size that is not marked
unmarked_size : (a : Aspect) (n : ℕ) (b : Bool) → AllByRecursion (λ w. LeavesAlone w a) (if b then Size n ∷ [] else []) → a ≡ Size n → b ≡ false
unmarked_size a n false alone e = refl
unmarked_size a n true alone e = absurd (alone.0 (sym e))

unmarked_length : (a : Aspect) (n : ℕ) (b : Bool) → AllByRecursion (λ w. LeavesAlone w a) (if b then [] else Size n ∷ []) → a ≡ Size n → b ≡ true
unmarked_length a n true alone e = refl
unmarked_length a n false alone e = absurd (alone.0 (sym e))

pub put_marks : (k : Kernel) (n place : ℕ) (bytes : List ℕ) (before : ℕ) → kind_of k n ≡ Some A_file → length (file_of k n) ≡ before → (a : Aspect) → AllByRecursion (λ w. LeavesAlone w a) (marks (Put_bytes n place bytes before)) → Keeps k (set_inode n (File (written (file_of k n) place bytes)) k) a
put_marks k n place bytes before is long a alone =
    let parts = all-append (λ w. LeavesAlone w a) (if nat_lt before (place + length bytes) then Size n ∷ [] else []) (map (Block n) (blocks place (length bytes))) alone in
    let each = all-map (λ w. LeavesAlone w a) (Block n) (blocks place (length bytes)) parts.1 in
    file_marks k n (written (file_of k n) place bytes) is a
    (λ e.
    let enough : place + length bytes ≤ before = ltb-false before (place + length bytes) (unmarked_size a n (nat_lt before (place + length bytes)) parts.0 e) in
    let new : length (written (file_of k n) place bytes) ≡ max (length (file_of k n)) (place + length bytes) = length-written (file_of k n) place bytes in
    omega arith)
    (λ block e. other_block (file_of k n) bytes place block (λ i low at.
    in_blocks (λ b. Block n b ≢ a) place (length bytes) each i low (ap (Block n) at ∙ sym e)))

pub wipe_marks : (k : Kernel) (n place count : ℕ) → kind_of k n ≡ Some A_file → place + count ≤ length (file_of k n) → (a : Aspect) → AllByRecursion (λ w. LeavesAlone w a) (marks (Wipe n place count)) → Keeps k (set_inode n (File (written (file_of k n) place (replicate count 0))) k) a
wipe_marks k n place count is within a alone =
    let many : length (replicate {A = ℕ} count 0) ≡ count = length-replicate {A = ℕ} count 0 in
    let each = all-map (λ w. LeavesAlone w a) (Block n) (blocks place count) alone in
    file_marks k n (written (file_of k n) place (replicate count 0)) is a
    (λ e.
    let new : length (written (file_of k n) place (replicate count 0)) ≡ max (length (file_of k n)) (place + length (replicate {A = ℕ} count 0)) = length-written (file_of k n) place (replicate count 0) in
    omega arith)
    (λ block e. other_block (file_of k n) (replicate count 0) place block (λ i low at.
    in_blocks (λ b. Block n b ≢ a) place count each i (omega (arith, many)) (ap (Block n) at ∙ sym e)))

pub cut_marks : (k : Kernel) (n before after : ℕ) → kind_of k n ≡ Some A_file → length (file_of k n) ≡ before → (a : Aspect) → AllByRecursion (λ w. LeavesAlone w a) (marks (Cut n before after)) → Keeps k (set_inode n (File (sized after (file_of k n))) k) a
cut_marks k n before after is long a alone =
    let parts = all-append (λ w. LeavesAlone w a) (if before == after then [] else Size n ∷ []) (map (Block n) (blocks after (before - after))) alone in
    let each = all-map (λ w. LeavesAlone w a) (Block n) (blocks after (before - after)) parts.1 in
    file_marks k n (sized after (file_of k n)) is a
    (λ e. length-sized after (file_of k n) ∙ sym (long ∙ eqb→eq before after (subst T (sym (unmarked_length a n (before == after) parts.0 e)) tt)))
    (λ block e i at. elim (cases_lt i after) [
      | inl low ↦ sized_at after (file_of k n) i low
      | inr past ↦ elim (cases_lt i before) [
        | inl inside ↦ absurd (in_blocks (λ b. Block n b ≢ a) after (before - after) each (i - after) (omega arith) (ap (Block n) (let same : after + (i - after) ≡ i = omega arith in ap (λ i. i / 1024) same ∙ at) ∙ sym e))
        | inr beyond ↦ cut_past after (file_of k n) i past ∙ sym (get_or_past (file_of k n) i 0 (omega arith))
      ]
    ])
