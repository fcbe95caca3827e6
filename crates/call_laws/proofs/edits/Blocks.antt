-- Bytes written into a file, read by place, and the blocks that stay alike.
use Rattle.std.proofs.Common.{◌≡◌, ◌≢◌, ℕ, ◌+◌, ◌-◌, ◌/◌, ◌<◌, ◌≤◌, max, List, ◌++◌, length, get_or, replicate, Some, refl, sym, ap, subst, ◌∙◌, arith, inl, inr}
use Rattle.std.proofs.lemmas.Bool.{cases_eq, cases_lt}
use Rattle.std.proofs.lemmas.List.{get_or_past}
use Rattle.model.specs.FiniteMap.{get, keys}
use Rattle.model.specs.State.{A_file, Kernel, File, file_of, pipe_of, target_of, kind_of, ends, file_of_inode, pipe_of_inode, target_of_inode, rights_or}
use Rattle.model.specs.Aspects.{Aspect, Entry, Names, Size, Block, Links, Ends, Offset, Front, Back, Target, Rights, SameBlock, Keeps}
use Rattle.model.specs.Changes.{set_inode, sized, written}
use Rattle.model.proofs.Laws.{unchanged_by, length-sized, sized_at, length-written, written_before, written_in, written_behind}
use Rattle.call_laws.proofs.edits.Contents.{HasBytes, has_bytes, here_by, there_by, entry_same, no_names_file, no_pipe_file, no_target_file}

-- the same bytes written into two files keep each block alike
pub same_block : (xs ys bytes : List ℕ) (place block : ℕ) → SameBlock block ys xs → SameBlock block (written ys place bytes) (written xs place bytes)
same_block xs ys bytes place block h i is =
    elim (cases_lt i place) [
      | inl low ↦ written_before ys place bytes i low ∙ h i is ∙ sym (written_before xs place bytes i low)
      | inr from ↦ elim (cases_lt i (place + length bytes)) [
        | inl high ↦ written_in ys place bytes i from high ∙ sym (written_in xs place bytes i from high)
        | inr behind ↦ written_behind ys place bytes i behind ∙ h i is ∙ sym (written_behind xs place bytes i behind)
      ]
    ]

-- a block in which nothing is written stays
pub other_block : (old bytes : List ℕ) (place block : ℕ) → ((i : ℕ) → i < length bytes → (place + i) / 1024 ≢ block) → SameBlock block (written old place bytes) old
other_block old bytes place block away i is =
    elim (cases_lt i place) [
      | inl low ↦ written_before old place bytes i low
      | inr from ↦ elim (cases_lt i (place + length bytes)) [
        | inl high ↦ absurd (away (i - place) (omega arith) (let e : place + (i - place) ≡ i = omega arith in ap (λ n. n / 1024) e ∙ is))
        | inr behind ↦ written_behind old place bytes i behind
      ]
    ]

-- Two states stay alike where a file gets new bytes in both, as many where it had as many, and its blocks stay alike.
pub file_keeps : (now later : Kernel) (n : ℕ) (new other : List ℕ) → kind_of now n ≡ Some A_file → kind_of later n ≡ Some A_file → (length (file_of later n) ≡ length (file_of now n) → length other ≡ length new)
    → ((block : ℕ) → SameBlock block (file_of later n) (file_of now n) → SameBlock block other new)
    → (a : Aspect) → Keeps now later a → Keeps (set_inode n (File new) now) (set_inode n (File other) later) a
unfolding ends
file_keeps now later n new other e f long blocks a = by_aspect a
  where
    one : HasBytes now (set_inode n (File new) now)
    one = has_bytes now n (File new) (sym e) refl (no_names_file _ e)

    two : HasBytes later (set_inode n (File other) later)
    two = has_bytes later n (File other) (sym f) refl (no_names_file _ f)

    pipes_one : (t : ℕ) → pipe_of (set_inode n (File new) now) t ≡ pipe_of now t
    pipes_one = unchanged_by pipe_of_inode now n (File new) (no_pipe_file _ e)

    pipes_two : (t : ℕ) → pipe_of (set_inode n (File other) later) t ≡ pipe_of later t
    pipes_two = unchanged_by pipe_of_inode later n (File other) (no_pipe_file _ f)

    targets_one : (t : ℕ) → target_of (set_inode n (File new) now) t ≡ target_of now t
    targets_one = unchanged_by target_of_inode now n (File new) (no_target_file _ e)

    targets_two : (t : ℕ) → target_of (set_inode n (File other) later) t ≡ target_of later t
    targets_two = unchanged_by target_of_inode later n (File other) (no_target_file _ f)

    by_aspect : (a : Aspect) → Keeps now later a → Keeps (set_inode n (File new) now) (set_inode n (File other) later) a
    by_aspect (Entry d x) h = entry_same later _ two d x ∙ h ∙ sym (entry_same now _ one d x)
    by_aspect (Names d) h = ap keys (two.names d) ∙ h ∙ sym (ap keys (one.names d))
    by_aspect (Links m) h = two.links m ∙ h ∙ sym (one.links m)
    by_aspect (Ends q) h = h
    by_aspect (Offset d) h = h
    by_aspect (Target m) h = targets_two m ∙ h ∙ sym (targets_one m)
    by_aspect (Rights m) h = ap (rights_or (get later.rights m)) (two.kinds m) ∙ h ∙ sym (ap (rights_or (get now.rights m)) (one.kinds m))
    by_aspect (Front q) h = (h.0, pipes_two q ∙ h.1 ∙ ap (λ b. b ++ h.0) (sym (pipes_one q)))
    by_aspect (Back q) h = (h.0, pipes_one q ∙ h.1 ∙ ap (λ b. h.0 ++ b) (sym (pipes_two q)))
    by_aspect (Size m) h = elim (cases_eq m n) [
      | inl is ↦ ap length (here_by file_of_inode later n (File other) m is) ∙ long (subst (λ m. length (file_of later m) ≡ length (file_of now m)) is h) ∙ sym (ap length (here_by file_of_inode now n (File new) m is))
      | inr away ↦ ap length (there_by file_of_inode later n (File other) m away) ∙ h ∙ ap length (sym (there_by file_of_inode now n (File new) m away))
    ]
    by_aspect (Block m block) h = elim (cases_eq m n) [
      | inl is ↦ λ i at. ap (λ b. get_or b i 0) (here_by file_of_inode later n (File other) m is)
          ∙ blocks block (subst (λ m. SameBlock block (file_of later m) (file_of now m)) is h) i at
          ∙ sym (ap (λ b. get_or b i 0) (here_by file_of_inode now n (File new) m is))
      | inr away ↦ λ i at. ap (λ b. get_or b i 0) (there_by file_of_inode later n (File other) m away) ∙ h i at ∙ ap (λ b. get_or b i 0) (sym (there_by file_of_inode now n (File new) m away))
    ]

-- the same bytes written into one file of both, of one length before
pub put_keeps : (now later : Kernel) (n place : ℕ) (bytes : List ℕ) → kind_of now n ≡ Some A_file → kind_of later n ≡ Some A_file → length (file_of later n) ≡ length (file_of now n)
    → (a : Aspect) → Keeps now later a → Keeps (set_inode n (File (written (file_of now n) place bytes)) now) (set_inode n (File (written (file_of later n) place bytes)) later) a
put_keeps now later n place bytes e f long = file_keeps now later n (written (file_of now n) place bytes) (written (file_of later n) place bytes) e f
    (λ _. length-written (file_of later n) place bytes ∙ ap (λ len. max len (place + length bytes)) long ∙ sym (length-written (file_of now n) place bytes))
    (same_block (file_of now n) (file_of later n) bytes place)

-- bytes of both that become zero, within the file
pub wipe_keeps : (now later : Kernel) (n place count : ℕ) → kind_of now n ≡ Some A_file → kind_of later n ≡ Some A_file → (a : Aspect) → Keeps now later a
    → Keeps (set_inode n (File (written (file_of now n) place (replicate count 0))) now) (set_inode n (File (written (file_of later n) place (replicate count 0))) later) a
wipe_keeps now later n place count e f = file_keeps now later n (written (file_of now n) place (replicate count 0)) (written (file_of later n) place (replicate count 0)) e f
    (λ long. length-written (file_of later n) place (replicate count 0) ∙ ap (λ len. max len (place + length (replicate {A = ℕ} count 0))) long ∙ sym (length-written (file_of now n) place (replicate count 0)))
    (same_block (file_of now n) (file_of later n) (replicate count 0) place)

-- past the end of what was cut
pub cut_past : (len : ℕ) (old : List ℕ) (i : ℕ) → len ≤ i → get_or (sized len old) i 0 ≡ 0
cut_past len old i low = get_or_past (sized len old) i 0 (omega (arith, length-sized len old))

pub same_cut : (xs ys : List ℕ) (len block : ℕ) → SameBlock block ys xs → SameBlock block (sized len ys) (sized len xs)
same_cut xs ys len block h i is =
    elim (cases_lt i len) [
      | inl low ↦ sized_at len ys i low ∙ h i is ∙ sym (sized_at len xs i low)
      | inr past ↦ cut_past len ys i past ∙ sym (cut_past len xs i past)
    ]

pub cut_keeps : (now later : Kernel) (n len : ℕ) → kind_of now n ≡ Some A_file → kind_of later n ≡ Some A_file
    → (a : Aspect) → Keeps now later a → Keeps (set_inode n (File (sized len (file_of now n))) now) (set_inode n (File (sized len (file_of later n))) later) a
cut_keeps now later n len e f = file_keeps now later n (sized len (file_of now n)) (sized len (file_of later n)) e f
    (λ _. length-sized len (file_of later n) ∙ sym (length-sized len (file_of now n)))
    (same_cut (file_of now n) (file_of later n) len)
