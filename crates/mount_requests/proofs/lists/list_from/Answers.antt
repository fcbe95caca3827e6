use Rattle.std.proofs.Common.{◌≡◌, ◌∙◌, List, ℕ, Some, None, arith, rules, sym, ap}
use Rattle.std.specs.Prelude.{slice_get}
use Rattle.fuse.specs.Listed.{Listed}
use Rattle.mount_requests.specs.Listed.{with_dots}
use Rattle.mount_requests.proofs.Telling.{all_told, begins, no_more, none_from, one_more}
use Rattle.mount_requests.proofs.lists.list_from.Goals as goal
use Rattle.mount_requests.proofs.lists.list_from.Goals.{else-loop-index-test, then-loop-index-test+in_default, then-loop-index-test+in-Some+in_ok-add_entry+then-not-branch}

pub loop-index-init : goal.loop-index-init
loop-index-init c = (c.new-list.ensures.size ∙ c.min.ensures, begins c.args.names.now c.args.offset c.args.size c.new-list.result (c.new-list.ensures.size ∙ c.min.ensures) c.new-list.ensures.bytes)

pub add_entry-requires-clause-size : goal.add_entry-requires-clause-size
add_entry-requires-clause-size c = omega (arith, c.loop-index.invariant.0)

pub loop-index-preserved : goal.loop-index-preserved
loop-index-preserved c =
    let all : List (List ℕ) = with_dots c.args.names.now in
    let there : slice_get all c.loop-index.index ≡ Some c.in-Some.name.now = search rules in
    one_more all c.loop-index.index c.in-Some.name.now c.loop-index.list c.add_entry.new.list _ _ there (sym c.in_ok-add_entry.ensures.fitted ∙ c.if-not-branch.false) c.in_ok-add_entry.ensures.ok c.loop-index.invariant.0 c.loop-index.invariant.1

pub returns : goal.returns
returns c =
    let all : List (List ℕ) = with_dots c.args.names.now in
    elim c.loop-index-test.branch [
      | else-loop-index-test w ↦ ap (λ (l : Listed). l.bytes) w.list-is ∙ all_told all c.loop-index.index c.loop-index.list _ (omega (arith, c.requires, w.loop-index-test.false)) c.loop-index.invariant.1
      | then-loop-index-test+in_default w ↦ (
          let none : slice_get all c.loop-index.index ≡ None = search rules in
          ap (λ (l : Listed). l.bytes) w.list-is ∙ all_told all c.loop-index.index c.loop-index.list _ (none_from all c.loop-index.index none) c.loop-index.invariant.1)
      | then-loop-index-test+in-Some+in_ok-add_entry+then-not-branch w ↦ (
          let there : slice_get all c.loop-index.index ≡ Some w.in-Some.name.now = search rules in
          ap (λ (l : Listed). l.bytes) w.list-is ∙ no_more all c.loop-index.index w.in-Some.name.now c.loop-index.list w.add_entry.new.list _ there (sym w.in_ok-add_entry.ensures.fitted ∙ w.if-not-branch.true) w.in_ok-add_entry.ensures.ok c.loop-index.invariant.1)
    ]
