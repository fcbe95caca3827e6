-- Tidying is unseen: it keeps all that a call reads.
use Rattle.std.proofs.Common.{◌≡◌, ℕ, true, [], length, get_or, Option, Some, None, refl, sym, ap, ◌∙◌, append-nil}
use Rattle.model.specs.FiniteMap.{FinMap, get, keys}
use Rattle.model.specs.State.{name_cmp, Kernel, kind, names_of, pipe_of, offset_in, mapped, names_of_inode, file_of_inode, pipe_of_inode, target_of_inode, kind_of, rights_or}
use Rattle.model.specs.Aspects.{Aspect, Entry, Names, Size, Block, Links, Ends, Offset, Front, Back, Target, Rights, Keeps}
use Rattle.model.specs.Changes.{tidy}
use Rattle.model.specs.Calls.{Call}
use Rattle.model.specs.Steps.{reads}
use Rattle.model.specs.Laws.{GoesTheSame}
use Rattle.model.proofs.Laws.{depends_on_what_it_saw}
use Rattle.call_laws.specs.WellFormed.{WellFormed}
use Rattle.call_laws.proofs.Maps.{all-mapped}
use Rattle.call_laws.proofs.edits.Names.{with_kind}
use Rattle.call_laws.proofs.Tidying.{reached, named_reached, at_reached, rights_reached, held_stays}
use Rattle.call_laws.proofs.law.WellTidy.{links_tidy, ends_tidy, own_tidy}
use Rattle.call_laws.proofs.calls.Reads.{IsLeft, calls_see}

kinds_left : (k : Kernel) (o : Option ℕ) → ((n : ℕ) → o ≡ Some n → reached k n ≡ true) → with_kind (tidy k) o ≡ with_kind k o
kinds_left k None h = refl
kinds_left k (Some n) h = λ i. Some (n, at_reached (mapped kind) k n (h n refl) i)

pub left_kept : (k : Kernel) → WellFormed k → (a : Aspect) → IsLeft k a → Keeps k (tidy k) a
left_kept k well (Entry d x) h = ap (λ (ns : FinMap name_cmp ℕ). with_kind (tidy k) (get ns x)) (at_reached names_of_inode k d h.left) ∙ kinds_left k (get (names_of k d) x) (λ n is. named_reached k d x n is)
left_kept k well (Names d) h = ap keys (at_reached names_of_inode k d h.left)
left_kept k well (Size n) h = ap length (at_reached file_of_inode k n h.left)
left_kept k well (Block n block) h = λ i is. ap (λ bytes. get_or bytes i 0) (at_reached file_of_inode k n h.left)
left_kept k well (Links n) h = links_tidy k well n
left_kept k well (Ends p) h = (ends_tidy k p (λ d. d.reading), ends_tidy k p (λ d. d.writing))
left_kept k well (Offset d) h = ap offset_in (held_stays k d h.held)
left_kept k well (Front p) h = ([], at_reached pipe_of_inode k p h.left ∙ sym (append-nil (pipe_of k p)))
left_kept k well (Back p) h = ([], sym (at_reached pipe_of_inode k p h.left))
left_kept k well (Target n) h = at_reached target_of_inode k n h.left
left_kept k well (Rights n) h = ap (λ o. rights_or o (kind_of (tidy k) n)) (rights_reached k n h.left) ∙ ap (rights_or (get k.rights n)) (at_reached (mapped kind) k n h.left)

pub tidying_is_unseen : (k : Kernel) (pid : ℕ) (call : Call) → WellFormed k → GoesTheSame k (tidy k) pid call
tidying_is_unseen k pid call well = depends_on_what_it_saw k (tidy k) pid call (own_tidy k pid call) (all-mapped (reads k pid call) (λ a h. left_kept k well a h) (calls_see k pid call well))
