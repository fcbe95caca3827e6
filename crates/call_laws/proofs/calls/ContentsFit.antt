-- The edits of calls on contents fit: read, pread, write, pwrite, lseek, ftruncate, truncate and fallocate.
use Rattle.std.proofs.Common.{◌≢◌, min, eq-eqb, ◌≡◌, ℕ, ◌+◌, ◌-◌, ◌≤◌, ℤ, pos, negsuc, Bool, true, false, ◌&&◌, List, [], ◌∷◌, ◌++◌, map, length, take, if◌then◌else◌, Some, IfOk, refl, sym, ◌∙◌, arith, ◌==◌, nat_lt, nat_le, length-take, ltb-true}
use Rattle.std.specs.List.{AllByRecursion}
use Rattle.std.proofs.lemmas.Bool.{false≢true}
use Rattle.model.specs.Limits.{capacity}
use Rattle.model.specs.State.{A_file, A_pipe, Kernel, kind_of, pipe_of}
use Rattle.model.specs.Aspects.{Size, Block, Offset}
use Rattle.model.specs.Plan.{Plan, given, ◌>>=◌, ◌>>◌, ask, answer, blocks, Measure, Count_ends, Fit, refuse_if, EINVAL, EAGAIN, EPIPE, EFBIG}
use Rattle.model.specs.Changes.{Put_bytes, Wipe, Cut, Append, Set_offset, marks, applied}
use Rattle.model.specs.Calls.{Space, Grow, Keep, Punch, Answer, Done, Count, New_place, Bytes, Slot}
use Rattle.model.specs.Plans.{Change, changed, unchanged, is_pipe, read_pipe, read_some, place_to_write, write_some, room, write_from, sought, cut_to, spaced}
use Rattle.model.proofs.Laws.{append-all}
use Rattle.call_laws.specs.Objects.{IsThere}
use Rattle.call_laws.specs.WellFormed.{WellFormed}
use Rattle.call_laws.specs.Fits.{IsAlive}
use Rattle.call_laws.proofs.Maps.{not_none}
use Rattle.call_laws.proofs.calls.Rules.{after_bind, whatever, allowed, either_given}
use Rattle.call_laws.proofs.calls.OpenSlots.{IsOpen, kind_of_pipe, kind_of_file}
use Rattle.call_laws.proofs.calls.WillFit.{WillFit, blocks_there, unchanged_fits}

-- the two halves of a write's plan
abbrev pub write_pipe : Slot → List ℕ → Plan Change
write_pipe it bytes = do
  ends ← ask (Count_ends it.inode)
  refuse_if (ends.0 == 0) EPIPE
  fitting ← ask (Fit it.inode (length bytes))
  refuse_if (nat_lt fitting (length bytes) && nat_le (length bytes) 512) EAGAIN
  refuse_if (fitting == 0) EAGAIN
  changed (Count fitting) (Append it.inode (take fitting bytes) ∷ [])

abbrev pub put_at : ℕ → Slot → List ℕ → ℕ → Plan Change
put_at largest it bytes place = do
  refuse_if (nat_le largest place) EFBIG
  size ← ask (Measure it.inode)
  changed (Count (length (take (room largest place) bytes))) (Put_bytes it.inode place (take (room largest place) bytes) size ∷ Set_offset it.description (place + length (take (room largest place) bytes)) ∷ [])

-- what is appended fits where anything does
appended_fits : (long count : ℕ) (bytes : List ℕ) → (min count (capacity - long) == 0) ≡ false → long + length (take (min count (capacity - long)) bytes) ≤ capacity
appended_fits long count bytes some =
    let away : min count (capacity - long) ≢ 0 = λ none. absurd (false≢true (sym some ∙ eq-eqb (min count (capacity - long)) 0 none)) in
    let few : length (take (min count (capacity - long)) bytes) ≡ min (min count (capacity - long)) (length bytes) = length-take (min count (capacity - long)) bytes in
    omega arith

module _ (k : Kernel) (well : WellFormed k) (pid : ℕ) (alive : IsAlive k pid) (inside : Bool) (chosen : List ℕ) where
  abbrev Fine : Change → Type 0
  Fine = WillFit k pid inside chosen

  -- contents
  read_pipe_at : (p : ℕ) → kind_of k p ≡ Some A_pipe → (bytes : List ℕ) → length bytes ≤ length (pipe_of k p) → IfOk (given k (read_pipe p bytes)) Fine
  read_pipe_at p is [] low = allowed k Fine (nat_lt 0 (answer k (Count_ends p)).1) EAGAIN (unchanged (Bytes [])) (λ _. unchanged_fits k pid inside chosen (Bytes []))
  read_pipe_at p is (b ∷ bytes) low = record { fits = λ can. ((is, low), tt); by = (tt, tt); there = (is, tt) }

  described : (s : Slot) → IsOpen k s → IsThere k (Offset s.description)
  described s held none = not_none held.it (sym held.there ∙ none)

  offset_fits : (s : Slot) → IsOpen k s → (reply : Answer) (b : Bool) (place : ℕ) → Fine (record { reply = reply; edits = if b then [] else Set_offset s.description place ∷ [] })
  offset_fits s held reply true place = unchanged_fits k pid inside chosen reply
  offset_fits s held reply false place = record { fits = λ can. ((held.it, held.there), tt); by = (tt, tt); there = (described s held, tt) }

  pub read_at : (s : Slot) (count : ℕ) → IsOpen k s → IfOk (given k (read_some s count)) Fine
  read_at s count held =
      either_given k Fine (is_pipe s.kind) _ _
      (λ pipe. read_pipe_at s.inode (sym held.kind ∙ kind_of_pipe s.kind pipe) (take count (pipe_of k s.inode)) (omega (arith, length-take count (pipe_of k s.inode))))
      (λ _. offset_fits s held _ _ _)

  write_pipe_at : (s : Slot) (bytes : List ℕ) → kind_of k s.inode ≡ Some A_pipe → (none : Bool) → IfOk (given k (refuse_if none EPIPE >> (ask (Fit s.inode (length bytes)) >>= (λ fitting. refuse_if (nat_lt fitting (length bytes) && nat_le (length bytes) 512) EAGAIN >> (refuse_if (fitting == 0) EAGAIN >> changed (Count fitting) (Append s.inode (take fitting bytes) ∷ [])))))) Fine
  write_pipe_at s bytes is true = tt
  write_pipe_at s bytes is false =
      let fitting : ℕ = answer k (Fit s.inode (length bytes)) in
      allowed k Fine (nat_lt fitting (length bytes) && nat_le (length bytes) 512) EAGAIN (refuse_if (fitting == 0) EAGAIN >> changed (Count fitting) (Append s.inode (take fitting bytes) ∷ [])) (λ _.
      allowed k Fine (fitting == 0) EAGAIN (changed (Count fitting) (Append s.inode (take fitting bytes) ∷ [])) (λ some. record { fits = λ can. ((is, appended_fits (length (pipe_of k s.inode)) (length bytes) bytes some), tt); by = (tt, tt); there = (is, tt) }))

  size_there : (n : ℕ) → kind_of k n ≡ Some A_file → (b : Bool) → AllByRecursion (IsThere k) (if b then Size n ∷ [] else [])
  size_there n is true = (is, tt)
  size_there n is false = tt

  put_fits : (s : Slot) (bytes : List ℕ) → IsOpen k s → kind_of k s.inode ≡ Some A_file → (place : ℕ) → IfOk (given k (put_at k.bounds.file_bytes s bytes place)) Fine
  unfolding applied
  put_fits s bytes held is place = by_test (nat_le k.bounds.file_bytes place)
    where
      by_test : (b : Bool) → IfOk (given k (refuse_if b EFBIG >> (ask (Measure s.inode) >>= (λ size. changed (Count (length (take (room k.bounds.file_bytes place) bytes))) (Put_bytes s.inode place (take (room k.bounds.file_bytes place) bytes) size ∷ Set_offset s.description (place + length (take (room k.bounds.file_bytes place) bytes)) ∷ []))))) Fine
      by_test true = tt
      by_test false = record {
        fits = λ can. ((is, refl), ((held.it, held.there), tt));
        by = (tt, (tt, tt));
        there = append-all (IsThere k) ((if nat_lt (answer k (Measure s.inode)) (place + length (take (room k.bounds.file_bytes place) bytes)) then Size s.inode ∷ [] else []) ++ map (Block s.inode) (blocks place (length (take (room k.bounds.file_bytes place) bytes)))) (Offset s.description ∷ [])
            (append-all (IsThere k) (if nat_lt (answer k (Measure s.inode)) (place + length (take (room k.bounds.file_bytes place) bytes)) then Size s.inode ∷ [] else []) (map (Block s.inode) (blocks place (length (take (room k.bounds.file_bytes place) bytes))))
            (size_there s.inode is _) (blocks_there k s.inode is _))
            (described s held, tt);
      }

  pub write_at : (s : Slot) (bytes : List ℕ) → IsOpen k s → IfOk (given k (write_some k.bounds.file_bytes s bytes)) Fine
  write_at s bytes held =
      either_given k Fine (is_pipe s.kind) (write_pipe s bytes) (place_to_write s s.appending >>= put_at k.bounds.file_bytes s bytes)
      (λ pipe. write_pipe_at s bytes (sym held.kind ∙ kind_of_pipe s.kind pipe) ((answer k (Count_ends s.inode)).0 == 0))
      (λ file. after_bind k Fine (place_to_write s s.appending) (put_at k.bounds.file_bytes s bytes) (whatever (given k (place_to_write s s.appending)) (λ place.
      put_fits s bytes held (sym held.kind ∙ kind_of_file s.kind held.can_be_opened file) place)))

  pub put_from : (s : Slot) (bytes : List ℕ) → IsOpen k s → is_pipe s.kind ≡ false → (offset : ℕ) → IfOk (given k (write_from k.bounds.file_bytes s.inode offset bytes)) Fine
  unfolding applied
  put_from s bytes held file offset =
      let is : kind_of k s.inode ≡ Some A_file = sym held.kind ∙ kind_of_file s.kind held.can_be_opened file in
      allowed k Fine (nat_le k.bounds.file_bytes offset) EFBIG (ask (Measure s.inode) >>= (λ size. changed (Count (length (take (room k.bounds.file_bytes offset) bytes))) (Put_bytes s.inode offset (take (room k.bounds.file_bytes offset) bytes) size ∷ []))) (λ _. record {
        fits = λ can. ((is, refl), tt);
        by = (tt, tt);
        there = append-all (IsThere k) ((if nat_lt (answer k (Measure s.inode)) (offset + length (take (room k.bounds.file_bytes offset) bytes)) then Size s.inode ∷ [] else []) ++ map (Block s.inode) (blocks offset (length (take (room k.bounds.file_bytes offset) bytes)))) []
            (append-all (IsThere k) (if nat_lt (answer k (Measure s.inode)) (offset + length (take (room k.bounds.file_bytes offset) bytes)) then Size s.inode ∷ [] else []) (map (Block s.inode) (blocks offset (length (take (room k.bounds.file_bytes offset) bytes))))
            (size_there s.inode is _) (blocks_there k s.inode is _))
            tt;
      })

  pub seek_at : (s : Slot) (to : ℤ) → IsOpen k s → IfOk (given k (sought k.bounds.file_bytes s to)) Fine
  seek_at s (pos place) held = allowed k Fine (nat_lt k.bounds.file_bytes place) EINVAL (changed (New_place place) (Set_offset s.description place ∷ [])) (λ _. record { fits = λ can. ((held.it, held.there), tt); by = (tt, tt); there = (described s held, tt) })
  seek_at s (negsuc place) held = tt

  length_there : (n : ℕ) → kind_of k n ≡ Some A_file → (b : Bool) → AllByRecursion (IsThere k) (if b then [] else Size n ∷ [])
  length_there n is true = tt
  length_there n is false = (is, tt)

  pub cut_there : (n before after : ℕ) → kind_of k n ≡ Some A_file → AllByRecursion (IsThere k) (marks (Cut n before after))
  cut_there n before after is = append-all (IsThere k) (if before == after then [] else Size n ∷ []) (map (Block n) (blocks after (before - after))) (length_there n is (before == after)) (blocks_there k n is _)

  pub cut_fits : (n len : ℕ) → kind_of k n ≡ Some A_file → IfOk (given k (cut_to n len >>= (λ cut. changed Done cut))) Fine
  cut_fits n len is =
      record { fits = λ can. ((is, refl), tt); by = (tt, tt); there = append-all (IsThere k) (marks (Cut n (answer k (Measure n)) len)) [] (cut_there n (answer k (Measure n)) len is) tt }

  pub truncated : (s : Slot) (len : ℕ) → IsOpen k s → is_pipe s.kind ≡ false → IfOk (given k (cut_to s.inode len >>= (λ cut. changed Done cut))) Fine
  truncated s len held file = cut_fits s.inode len (sym held.kind ∙ kind_of_file s.kind held.can_be_opened file)

  -- a range of a file
  pub spaced_at : (n at count : ℕ) (space : Space) → kind_of k n ≡ Some A_file → IfOk (given k (spaced n at count space)) Fine
  spaced_at n at count Grow is = by_test (nat_lt (answer k (Measure n)) (at + count))
    where
      by_test : (b : Bool) → Fine (record { reply = Done; edits = if b then Cut n (answer k (Measure n)) (at + count) ∷ [] else [] })
      by_test true = record { fits = λ can. ((is, refl), tt); by = (tt, tt); there = append-all (IsThere k) (marks (Cut n (answer k (Measure n)) (at + count))) [] (cut_there n (answer k (Measure n)) (at + count) is) tt }
      by_test false = unchanged_fits k pid inside chosen Done
  spaced_at n at count Keep is = unchanged_fits k pid inside chosen Done
  spaced_at n at count Punch is = by_test (nat_lt at (answer k (Measure n))) refl
    where
      by_test : (b : Bool) → nat_lt at (answer k (Measure n)) ≡ b → Fine (record { reply = Done; edits = if b then Wipe n at (min count (answer k (Measure n) - at)) ∷ [] else [] })
      by_test true e = record {
        fits = λ can. ((is, omega (arith, ltb-true at (answer k (Measure n)) e)), tt);
        by = (tt, tt);
        there = append-all (IsThere k) (map (Block n) (blocks at (min count (answer k (Measure n) - at)))) [] (blocks_there k n is _) tt;
      }
      by_test false e = unchanged_fits k pid inside chosen Done

  pub spaced_in : (s : Slot) (at count : ℕ) (space : Space) → IsOpen k s → is_pipe s.kind ≡ false → IfOk (given k (spaced s.inode at count space)) Fine
  spaced_in s at count space held file = spaced_at s.inode at count space (sym held.kind ∙ kind_of_file s.kind held.can_be_opened file)
