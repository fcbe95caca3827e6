-- What patches take in of an edit of a file's bytes.
use Rattle.std.proofs.Common.{◌≡◌, ℕ, ◌≤◌, ◌==◌, ◌↔◌, Bool, cond, true, false, length, replicate, List, [], ◌++◌, Option, Some, refl, sym, ap, ◌∙◌, subst, arith, eq-eqb, ne_eqb, inl, inr, append-nil}
use Rattle.std.proofs.lemmas.Bool.{cases_eq}
use Rattle.model.specs.State.{Inode}
use Rattle.model.specs.Changes.{Put_bytes, Cut, Wipe}
use Rattle.std.specs.List.{Contains}
use Rattle.model.specs.Plan.{blocks}
use Rattle.notes.specs.Patches.{AllReach, new_ends, Net, Patches, added_by, form_of, net_at, numbers_in, patched}
use Rattle.notes.specs.Notes.{At, IsFiled}
use Rattle.notes.specs.Steps.{TakesIn, bytes_cut, bytes_written, filed}
use Rattle.notes.proofs.InodeNotes.{Changes, as_written, Taken, no_ends, takes_first}

-- A file's bytes change.
record Filing (file : ℕ) (f : Option Inode → Option Inode) (more : List ℕ) (n : ℕ) (old new : Net) : Type 0 where
  contents : (o : Option Inode) → patched new.contents o ≡ cond (n == file) (f (patched old.contents o)) (patched old.contents o)
  form : form_of new.contents ≡ cond (n == file) (filed (form_of old.contents)) (form_of old.contents)
  added : added_by new.contents ≤ added_by old.contents
  reached : (o : Option Inode) → AllReach old.contents o → AllReach new.contents o
  ends : (ends : ℕ × ℕ) → new_ends new.contents ≡ Some ends → new_ends old.contents ≡ Some ends
  numbers : (b : ℕ) → Contains (numbers_in new.contents) b ↔ Contains (numbers_in old.contents ++ cond (n == file) more []) b
  rest : record new { contents = old.contents } ≡ old

filing_at : (file : ℕ) (f : Option Inode → Option Inode) (more : List ℕ) (s t : Changes) → At file (IsFiled f more) s t → (n : ℕ) → Filing file f more n (net_at s n) (net_at t n)
filing_at file f more s t at n = elim (cases_eq n file) [
  | inl here ↦
      let yes : (n == file) ≡ true = eq-eqb n file here in
      let r : IsFiled f more (net_at s n) (net_at t n) = subst (λ k. IsFiled f more (net_at s k) (net_at t k)) (sym here) at.here in
      let added : added_by (net_at t n).contents ≡ 0 = r.added in
      record {
        contents = λ o. rw yes (r.contents o);
        form = rw yes r.form;
        added = omega arith;
        reached = λ o was. r.reached o;
        ends = λ ends is. no_ends (net_at t n).contents r.ends ends is;
        numbers = λ b. rw yes (r.numbers b);
        rest = r.rest;
      }
  | inr away ↦
      let no : (n == file) ≡ false = ne_eqb n file away in
      subst (λ net. Filing file f more n (net_at s n) net) (sym (at.others n away))
      (record {
        contents = λ o. rw no refl;
        form = rw no refl;
        added = omega arith;
        reached = λ o was. was;
        ends = λ ends is. is;
        numbers = λ b. rw no (as_written b (numbers_in (net_at s n).contents) (numbers_in (net_at s n).contents) refl);
        rest = refl;
      })
]

put_taken : (file place : ℕ) (bytes : List ℕ) (before n : ℕ) (s t : Net) → Filing file (bytes_written place bytes) (blocks place (length bytes)) n s t → Taken [] (Put_bytes file place bytes before) n s t
put_taken file place bytes before n s t r =
    let promised : t.promised ≡ s.promised = ap (λ (net : Net). net.promised) r.rest in
    let named : t.named ≡ s.named = ap (λ (net : Net). net.named) r.rest in
    let unnamed : t.unnamed ≡ s.unnamed = ap (λ (net : Net). net.unnamed) r.rest in
    let added : added_by t.contents ≤ added_by s.contents = r.added in
    record {
      contents = λ o can. r.contents o;
      reach = λ o can. r.reached o;
      ends = λ ends is. inl (r.ends ends is);
      made = ap (λ (net : Net). net.made) r.rest;
      promised = omega arith;
      named = omega arith;
      unnamed = omega arith;
      form = r.form;
      added = omega arith;
      written = r.numbers;
    }

cut_taken : (file before after n : ℕ) (s t : Net) → Filing file (bytes_cut after) [] n s t → Taken [] (Cut file before after) n s t
cut_taken file before after n s t r =
    let promised : t.promised ≡ s.promised = ap (λ (net : Net). net.promised) r.rest in
    let named : t.named ≡ s.named = ap (λ (net : Net). net.named) r.rest in
    let unnamed : t.unnamed ≡ s.unnamed = ap (λ (net : Net). net.unnamed) r.rest in
    let added : added_by t.contents ≤ added_by s.contents = r.added in
    record {
      contents = λ o can. r.contents o;
      reach = λ o can. r.reached o;
      ends = λ ends is. inl (r.ends ends is);
      made = ap (λ (net : Net). net.made) r.rest;
      promised = omega arith;
      named = omega arith;
      unnamed = omega arith;
      form = r.form;
      added = omega arith;
      written = λ b. subst (λ (xs : List ℕ). Contains (numbers_in t.contents) b ↔ Contains (numbers_in s.contents ++ xs) b) (by_test (n == file)) (r.numbers b);
    }
  where
    by_test : (b : Bool) → cond {A = List ℕ} b [] [] ≡ []
    by_test true = refl
    by_test false = refl

pub put_takes : (file place : ℕ) (bytes : List ℕ) (before : ℕ) (old new : Patches) → At file (IsFiled (bytes_written place bytes) (blocks place (length bytes))) old.inodes new.inodes
    → new.rights ≡ old.rights → new.openings ≡ old.openings → new.slots ≡ old.slots → new.unnamed_inodes ≡ old.unnamed_inodes → TakesIn [] (Put_bytes file place bytes before) old new
put_takes file place bytes before old new at rights openings slots unnamed_inodes =
    takes_first [] (Put_bytes file place bytes before) old new
    (λ n. put_taken file place bytes before n (net_at old.inodes n) (net_at new.inodes n) (filing_at file (bytes_written place bytes) (blocks place (length bytes)) old.inodes new.inodes at n))
    rights openings slots (unnamed_inodes ∙ sym (append-nil old.unnamed_inodes)) (λ n o. refl) (λ d o. refl) (λ pid o. refl) refl

pub cut_takes : (file before after : ℕ) (old new : Patches) → At file (IsFiled (bytes_cut after) []) old.inodes new.inodes
    → new.rights ≡ old.rights → new.openings ≡ old.openings → new.slots ≡ old.slots → new.unnamed_inodes ≡ old.unnamed_inodes → TakesIn [] (Cut file before after) old new
cut_takes file before after old new at rights openings slots unnamed_inodes =
    takes_first [] (Cut file before after) old new
    (λ n. cut_taken file before after n (net_at old.inodes n) (net_at new.inodes n) (filing_at file (bytes_cut after) [] old.inodes new.inodes at n))
    rights openings slots (unnamed_inodes ∙ sym (append-nil old.unnamed_inodes)) (λ n o. refl) (λ d o. refl) (λ pid o. refl) refl

wipe_taken : (file place count n : ℕ) (s t : Net) → Filing file (bytes_written place (replicate count 0)) (blocks place count) n s t → Taken [] (Wipe file place count) n s t
wipe_taken file place count n s t r =
    let promised : t.promised ≡ s.promised = ap (λ (net : Net). net.promised) r.rest in
    let named : t.named ≡ s.named = ap (λ (net : Net). net.named) r.rest in
    let unnamed : t.unnamed ≡ s.unnamed = ap (λ (net : Net). net.unnamed) r.rest in
    let added : added_by t.contents ≤ added_by s.contents = r.added in
    record {
      contents = λ o can. r.contents o;
      reach = λ o can. r.reached o;
      ends = λ ends is. inl (r.ends ends is);
      made = ap (λ (net : Net). net.made) r.rest;
      promised = omega arith;
      named = omega arith;
      unnamed = omega arith;
      form = r.form;
      added = omega arith;
      written = r.numbers;
    }

pub wipe_takes : (file place count : ℕ) (old new : Patches) → At file (IsFiled (bytes_written place (replicate count 0)) (blocks place count)) old.inodes new.inodes
    → new.rights ≡ old.rights → new.openings ≡ old.openings → new.slots ≡ old.slots → new.unnamed_inodes ≡ old.unnamed_inodes → TakesIn [] (Wipe file place count) old new
wipe_takes file place count old new at rights openings slots unnamed_inodes =
    takes_first [] (Wipe file place count) old new
    (λ n. wipe_taken file place count n (net_at old.inodes n) (net_at new.inodes n) (filing_at file (bytes_written place (replicate count 0)) (blocks place count) old.inodes new.inodes at n))
    rights openings slots (unnamed_inodes ∙ sym (append-nil old.unnamed_inodes)) (λ n o. refl) (λ d o. refl) (λ pid o. refl) refl
