use Rattle.std.proofs.Common.{◌≡◌, ◌*◌, ◌/◌, ◌-◌, ◌+◌, ℕ, List, length, max, replicate, sym, ap, subst, ◌∙◌, arith, inl, inr}
use Rattle.std.specs.List.{Contains}
use Rattle.std.proofs.lemmas.List.{length-replicate}
use Rattle.model.specs.Changes.{written}
use Rattle.model.specs.Plan.{blocks}
use Rattle.file_shadow.specs.View.{ChangedBlocks, FileChanges, IsInOrder, IsSound, view_over}
use Rattle.file_shadow.specs.Sets.{changed_of, changes_of}
use Rattle.file_shadow.specs.Steps.{end_block}
use Rattle.file_shadow.proofs.Ends.{EndsBlocks, ends}
use Rattle.ids.specs.declared.limits.TheConstants.{BLOCK_LEN}
use Rattle.objects.specs.Pieces.{HasRoom}
use Rattle.file_shadow.proofs.Roomy.{roomy_more, roomy_written}
use Rattle.file_shadow.proofs.Edited.{still_changed, changed_by, written_changed}
use Rattle.file_shadow.proofs.Views.{the_changes, sound_written, view_written}
use Rattle.file_shadow.proofs.shadow.FileShadow.wipe.Goals as goal

-- so many zeros, and where their blocks end
zeros_long : (count : ℕ) → length (replicate {A = ℕ} count 0) ≡ count
zeros_long count = length-replicate {A = ℕ} count 0

zeros_end : (offset count : ℕ) → EndsBlocks offset (length (replicate {A = ℕ} count 0)) (end_block offset count)
zeros_end offset count = subst (λ n. EndsBlocks offset n (end_block offset count)) (sym (zeros_long count)) (ends offset count)

-- the changes before, with the blocks that are ready
abbrev before : goal.After-self-1 → FileChanges
before c = changes_of c.self.inside.extent c.prepare.new.self

same_before : (c : goal.After-self-1) → before c ≡ c.args.self.now
same_before c = ap (λ (d : ChangedBlocks). the_changes c.self.inside.extent d) c.prepare.ensures.same ∙ c.self.view_is

sound_before : (c : goal.After-self-1) → IsSound (before c)
sound_before c = subst (λ (d : ChangedBlocks). IsSound (the_changes c.self.inside.extent d)) (sym c.prepare.ensures.same) c.self.invariant.0

pub invariant_of-self-2 : goal.invariant_of-self-2
invariant_of-self-2 c =
    let mid : ChangedBlocks = changed_of c.prepare.new.self in
    let new : ChangedBlocks = changed_of c.put_zeros.new.self in
    let end : ℕ = end_block c.args.offset c.args.count in
    let zeros : List ℕ = replicate c.args.count 0 in
    let promised = c.in_ok-promise.ensures.ok in (
      sound_written (changed_of c.prepare.new.self) c.self.inside.extent (sound_before c) (changed_of c.put_zeros.new.self) c.args.offset (end_block c.args.offset c.args.count) c.max-end.result (replicate c.args.count 0)
          c.put_zeros.ensures.order c.put_zeros.ensures.puts (zeros_end c.args.offset c.args.count) (c.max-end.ensures ∙ ap (λ n. max c.self.inside.extent.end (c.args.offset + n)) (sym (zeros_long c.args.count))) (omega (arith, c.max-end.ensures, (sound_before c).small, c.requires)),
      c.promise.ensures.bytes ∙ c.self.invariant.1,
      λ k there. elim (changed_by mid new (sound_before c).order c.put_zeros.ensures.order c.args.offset end zeros (zeros_end c.args.offset c.args.count) c.put_zeros.ensures.puts k there) [
        | inl was ↦ roomy_more c.self.inside.set.numbers.items c.self.inside.room.rooms c.promise.new.self.rooms c.promise.ensures.room c.self.invariant.2 k (subst (λ (d : ChangedBlocks). Contains d.numbers k) c.prepare.ensures.same was)
        | inr by ↦ roomy_written c.promise.new.self.rooms c.args.offset (length zeros) end k (zeros_end c.args.offset c.args.count) by
            (subst (λ e. HasRoom c.promise.new.self.rooms (c.args.offset / BLOCK_LEN * BLOCK_LEN) (e * BLOCK_LEN - c.args.offset / BLOCK_LEN * BLOCK_LEN)) c.end_block-past.ensures.value promised)
      ],
    )

pub returns-clause-view : goal.returns-clause-view
returns-clause-view c = λ xs.
    view_written (changed_of c.prepare.new.self) c.self.inside.extent (sound_before c) (changed_of c.put_zeros.new.self) c.args.offset (end_block c.args.offset c.args.count) c.max-end.result (replicate c.args.count 0)
    c.put_zeros.ensures.order c.put_zeros.ensures.puts (zeros_end c.args.offset c.args.count) (c.max-end.ensures ∙ ap (λ n. max c.self.inside.extent.end (c.args.offset + n)) (sym (zeros_long c.args.count))) (omega (arith, c.max-end.ensures, (sound_before c).small, c.requires)) xs
    ∙ ap (λ (d : FileChanges). written (view_over d xs) c.args.offset (replicate c.args.count 0)) (same_before c)

same_numbers : (c : goal.After-self-1) → (changed_of c.prepare.new.self).numbers ≡ c.args.self.now.changed.numbers
same_numbers c = ap (λ (d : FileChanges). d.changed.numbers) (same_before c)

pub returns-clause-changed : goal.returns-clause-changed
returns-clause-changed c = λ k.
    let offset : ℕ = c.args.offset in
    let count : ℕ = c.args.count in
    let zeros : List ℕ = replicate c.args.count 0 in
    let mid : ChangedBlocks = changed_of c.prepare.new.self in
    let new : ChangedBlocks = changed_of c.put_zeros.new.self in
    let order : IsInOrder mid = (sound_before c).order in
    let end : ℕ = end_block offset count in (
      λ is. elim (changed_by mid new order c.put_zeros.ensures.order offset end zeros (zeros_end offset count) c.put_zeros.ensures.puts k is) [
        | inl was ↦ inl (subst (λ (ns : List ℕ). Contains ns k) (same_numbers c) was)
        | inr by ↦ inr (subst (λ n. Contains (blocks offset n) k) (zeros_long count) by)
      ],
      λ either. elim either [
        | inl was ↦ still_changed mid new order c.put_zeros.ensures.order offset end zeros (zeros_end offset count) c.put_zeros.ensures.puts k
            (subst (λ (ns : List ℕ). Contains ns k) (sym (same_numbers c)) was)
        | inr by ↦ written_changed mid new order c.put_zeros.ensures.order offset end zeros (zeros_end offset count) c.put_zeros.ensures.puts k
            (subst (λ n. Contains (blocks offset n) k) (sym (zeros_long count)) by)
      ],
    )
