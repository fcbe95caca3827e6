-- What patches take in of an edit of a pipe.
use Rattle.std.proofs.Common.{◌≡◌, ◌≢◌, ℕ, ◌+◌, ◌≤◌, ◌==◌, ◌↔◌, Bool, cond, true, false, List, [], ◌++◌, Option, Some, None, refl, sym, ap, ap₂, ◌∙◌, ◌⊎◌, drop, subst, arith, eq-eqb, ne_eqb, inl, inr, append-nil}
use Rattle.std.proofs.lemmas.Bool.{cases_eq}
use Rattle.model.specs.State.{Inode, Pipe, pipe_of_inode}
use Rattle.model.specs.Changes.{Append, Edit, Take}
use Rattle.std.specs.List.{Contains}
use Rattle.freeing_laws.specs.Counts.{named, times, unnamed}
use Rattle.notes.specs.declared.change.Made.TheVariants.{Pipe as A_pipe}
use Rattle.notes.specs.Patches.{AllReach, of_pipe, new_ends, Net, Patches, added_by, form_of, net_at, numbers_in, patched}
use Rattle.notes.specs.Notes.{At, IsAppended, IsPassed, IsPiped, IsTaken}
use Rattle.notes.specs.Steps.{CanPass, IsPassable, TakesIn, bytes_appended, bytes_taken, new_in, piped, blocks_by, numbers_kept, form_after, inode_after, made_after, parents_in, kept_beside}
use Rattle.notes.proofs.InodeNotes.{Changes, as_written, Taken, takes_first, at_here}

-- Bytes of a pipe change.
passing_taken : (p : ℕ) (e : Edit) (f : List ℕ → List ℕ) (enough n : ℕ) (s t : Net) → ((o : Option Inode) → CanPass e n s.contents o → n ≡ p → IsPassable enough s.contents o)
    → ((o : Option Inode) → n ≡ p → inode_after [] e n o ≡ Some (Pipe (f (pipe_of_inode o)))) → ((o : Option Inode) → n ≢ p → inode_after [] e n o ≡ o)
    → made_after [] e n s.made ≡ s.made → parents_in e ≡ [] → named [] e ≡ [] → unnamed e ≡ [] → (n ≡ p → form_after [] e n (form_of s.contents) ≡ piped (form_of s.contents)) → (n ≢ p → form_after [] e n (form_of s.contents) ≡ form_of s.contents)
    → ((bs : List ℕ) → numbers_kept [] e n bs ≡ bs) → blocks_by n e ≡ [] → (n ≡ p → IsPassed f enough s t) → (n ≢ p → t ≡ s) → Taken [] e n s t
passing_taken p e f enough n s t can here away same_made no_parents no_names no_losses formed kept kept_numbers no_blocks passed same = elim (cases_eq n p) [
  | inl is ↦
      let r : IsPassed f enough s t = passed is in
      let promised : t.promised ≡ s.promised = ap (λ (net : Net). net.promised) r.rest in
      let named_same : t.named ≡ s.named = ap (λ (net : Net). net.named) r.rest in
      let unnamed_same : t.unnamed ≡ s.unnamed = ap (λ (net : Net). net.unnamed) r.rest in
      let added : added_by t.contents ≡ added_by s.contents = r.contents.added in
      let parents : times n (parents_in e) ≡ 0 = ap (times n) no_parents in
      let names : times n (named [] e) ≡ 0 = ap (times n) no_names in
      let losses : times n (unnamed e) ≡ 0 = ap (times n) no_losses in
      record {
        contents = λ o ok. r.contents.over o (can o ok is) ∙ sym (here (patched s.contents o) is);
        reach = λ o ok was. r.contents.reach o (can o ok is);
        ends = λ ends has. inl (sym r.contents.ends ∙ has);
        made = ap (λ (net : Net). net.made) r.rest ∙ sym same_made;
        promised = omega arith;
        named = omega arith;
        unnamed = omega arith;
        form = r.contents.form ∙ sym (formed is);
        added = omega arith;
        written = λ b. subst (λ xs. Contains (numbers_in t.contents) b ↔ Contains xs b) (sym (ap₂ (λ a c. a ++ c) (kept_numbers (numbers_in s.contents)) no_blocks)) (as_written b (numbers_in t.contents) (numbers_in s.contents) r.contents.numbers);
      }
  | inr not ↦
      let parents : times n (parents_in e) ≡ 0 = ap (times n) no_parents in
      let names : times n (named [] e) ≡ 0 = ap (times n) no_names in
      let losses : times n (unnamed e) ≡ 0 = ap (times n) no_losses in
      subst (Taken [] e n s) (sym (same not)) (record {
        contents = λ o ok. sym (away (patched s.contents o) not);
        reach = λ o ok was. was;
        ends = λ ends has. inl has;
        made = sym same_made;
        promised = omega arith;
        named = omega arith;
        unnamed = omega arith;
        form = sym (kept not);
        added = omega arith;
        written = λ b. subst (λ xs. Contains (numbers_in s.contents) b ↔ Contains xs b) (sym (ap₂ (λ a c. a ++ c) (kept_numbers (numbers_in s.contents)) no_blocks)) (as_written b (numbers_in s.contents) (numbers_in s.contents) refl);
      })
]

if_so : {A : Type 0} (b : Bool) (x y : A) → b ≡ true → cond b x y ≡ x
if_so true x y is = refl
if_so false x y is = absurd cc

if_not : {A : Type 0} (b : Bool) (x y : A) → b ≡ false → cond b x y ≡ y
if_not false x y is = refl
if_not true x y is = absurd cc

pub take_takes : (p count : ℕ) (old new : Patches) → At p (IsTaken count) old.inodes new.inodes → new.rights ≡ old.rights → new.openings ≡ old.openings → new.slots ≡ old.slots → new.unnamed_inodes ≡ old.unnamed_inodes → TakesIn [] (Take p count) old new
take_takes p count old new at rights openings slots unnamed_inodes = takes_first [] (Take p count) old new (λ n. passing_taken p (Take p count) (drop count) count n (net_at old.inodes n) (net_at new.inodes n)
    (λ o can is. can is) (λ o is. if_so (n == p) (bytes_taken count o) o (eq-eqb n p is)) (λ o away. if_not (n == p) (bytes_taken count o) o (ne_eqb n p away)) refl refl refl refl
    (λ is. if_so (n == p) (piped (form_of (net_at old.inodes n).contents)) (form_of (net_at old.inodes n).contents) (eq-eqb n p is))
    (λ away. if_not (n == p) (piped (form_of (net_at old.inodes n).contents)) (form_of (net_at old.inodes n).contents) (ne_eqb n p away))
    (λ bs. refl) refl (at_here p n (IsTaken count) old.inodes new.inodes at) (at.others n))
    rights openings slots (unnamed_inodes ∙ sym (append-nil old.unnamed_inodes)) (λ n o. refl) (λ d o. refl) (λ pid o. refl) refl

pub append_takes : (p : ℕ) (bytes : List ℕ) (old new : Patches) → At p (IsAppended bytes) old.inodes new.inodes → new.rights ≡ old.rights → new.openings ≡ old.openings → new.slots ≡ old.slots → new.unnamed_inodes ≡ old.unnamed_inodes → TakesIn [] (Append p bytes) old new
append_takes p bytes old new at rights openings slots unnamed_inodes = takes_first [] (Append p bytes) old new (λ n. passing_taken p (Append p bytes) (λ xs. xs ++ bytes) 0 n (net_at old.inodes n) (net_at new.inodes n)
    (λ o can is. can is) (λ o is. if_so (n == p) (bytes_appended bytes o) o (eq-eqb n p is)) (λ o away. if_not (n == p) (bytes_appended bytes o) o (ne_eqb n p away)) refl refl refl refl
    (λ is. if_so (n == p) (piped (form_of (net_at old.inodes n).contents)) (form_of (net_at old.inodes n).contents) (eq-eqb n p is))
    (λ away. if_not (n == p) (piped (form_of (net_at old.inodes n).contents)) (form_of (net_at old.inodes n).contents) (ne_eqb n p away))
    (λ bs. refl) refl (at_here p n (IsAppended bytes) old.inodes new.inodes at) (at.others n))
    rights openings slots (unnamed_inodes ∙ sym (append-nil old.unnamed_inodes)) (λ n o. refl) (λ d o. refl) (λ pid o. refl) refl

-- what is kept under one number where a pipe is made
pub record Piping (chosen : List ℕ) (i n : ℕ) (old new : Net) : Type 0 where
  pub contents : (o : Option Inode) → patched new.contents o ≡ cond (n == new_in chosen i) (Some (Pipe [])) (patched old.contents o)
  pub reach : (o : Option Inode) → AllReach old.contents o → AllReach new.contents o
  pub ends : (ends : ℕ × ℕ) → new_ends new.contents ≡ Some ends → (new_ends old.contents ≡ Some ends) ⊎ ((n ≡ new_in chosen i) × (ends ≡ (new_in chosen (i + 1), new_in chosen (i + 2))))
  pub made : new.made ≡ cond (n == new_in chosen i) (Some A_pipe) old.made
  pub form : form_of new.contents ≡ cond (n == new_in chosen i) (of_pipe true) (form_of old.contents)
  pub added : added_by new.contents ≤ added_by old.contents
  pub numbers : numbers_in new.contents ≡ kept_beside (new_in chosen i) n (numbers_in old.contents)
  pub promised : new.promised ≡ old.promised
  pub named : new.named ≡ old.named
  pub unnamed : new.unnamed ≡ old.unnamed

pub piping_at : (chosen : List ℕ) (i : ℕ) (s t : Changes) → At (new_in chosen i) (IsPiped (new_in chosen (i + 1)) (new_in chosen (i + 2))) s t → (n : ℕ) → Piping chosen i n (net_at s n) (net_at t n)
piping_at chosen i s t at n = elim (cases_eq n (new_in chosen i)) [
  | inl is ↦
      let yes : (n == new_in chosen i) ≡ true = eq-eqb n (new_in chosen i) is in
      let r : IsPiped (new_in chosen (i + 1)) (new_in chosen (i + 2)) (net_at s n) (net_at t n) = at_here (new_in chosen i) n (IsPiped (new_in chosen (i + 1)) (new_in chosen (i + 2))) s t at is in
      let added : added_by (net_at t n).contents ≡ 0 = r.added in
      record {
        contents = λ o. rw yes (r.contents o);
        reach = λ o was. r.reach o;
        ends = λ ends has. inr (is, same_pair (new_in chosen (i + 1), new_in chosen (i + 2)) ends (sym has ∙ r.ends));
        made = rw yes r.made;
        form = rw yes r.form;
        added = omega arith;
        numbers = rw yes r.numbers;
        promised = ap (λ (net : Net). net.promised) r.rest;
        named = ap (λ (net : Net). net.named) r.rest;
        unnamed = ap (λ (net : Net). net.unnamed) r.rest;
      }
  | inr away ↦
      let no : (n == new_in chosen i) ≡ false = ne_eqb n (new_in chosen i) away in
      subst (Piping chosen i n (net_at s n)) (sym (at.others n away)) (record {
        contents = λ o. rw no refl;
        reach = λ o was. was;
        ends = λ ends has. inl has;
        made = rw no refl;
        form = rw no refl;
        added = omega arith;
        numbers = rw no refl;
        promised = refl;
        named = refl;
        unnamed = refl;
      })
]
  where
    same_pair : (a b : ℕ × ℕ) → Some b ≡ Some a → b ≡ a
    same_pair a b is = ap (or_pair a) is
      where
        or_pair : ℕ × ℕ → Option (ℕ × ℕ) → ℕ × ℕ
        or_pair x (Some y) = y
        or_pair x None = x
