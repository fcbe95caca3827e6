use Rattle.std.proofs.Common.{◌≡◌, ◌≤◌, ℕ, List, length, sym, subst, arith}
use Rattle.std.proofs.lemmas.List.{get_or_read}
use Rattle.model.specs.Changes.{Edit, news}
use Rattle.notes.specs.Steps.{IsFirst, TakesIn, new_in}
use Rattle.notes.proofs.UnusedNumbers.{append_taken, cut_taken, pipe_taken, put_taken, take_taken, wiped_taken}
use Rattle.notes.proofs.Outcomes.{ok_so}
use Rattle.notes.proofs.patches.Patches.note_first.Goals as goal

pub returns-in-PutBytes-clause-ok : goal.returns-in-PutBytes-clause-ok
returns-in-PutBytes-clause-ok c =
    ok_so c.write-noted.result
    (λ t. subst (λ (e : Edit). TakesIn c.args.chosen.now e c.args.self.now c.write-noted.new.self) (sym c.in-PutBytes.is)
    (put_taken c.args.chosen.now c.args.self.now c.write-noted.new.self c.in-PutBytes.file c.in-PutBytes.offset c.in-PutBytes.bytes c.in-PutBytes.length_before (t c.in-PutBytes.length_before)))
    c.write-noted.ensures.ok

pub returns-in-Wipe-clause-ok : goal.returns-in-Wipe-clause-ok
returns-in-Wipe-clause-ok c =
    ok_so c.wipe.result
    (λ t. subst (λ (e : Edit). TakesIn c.args.chosen.now e c.args.self.now c.wipe.new.self) (sym c.in-Wipe.is)
    (wiped_taken c.args.chosen.now c.args.self.now c.wipe.new.self c.in-Wipe.file c.in-Wipe.offset c.in-Wipe.count t))
    c.wipe.ensures.ok

pub returns-in-Cut-clause-ok : goal.returns-in-Cut-clause-ok
returns-in-Cut-clause-ok c =
    ok_so c.cut.result
    (λ t. subst (λ (e : Edit). TakesIn c.args.chosen.now e c.args.self.now c.cut.new.self) (sym c.in-Cut.is)
    (cut_taken c.args.chosen.now c.args.self.now c.cut.new.self c.in-Cut.file c.in-Cut.length_before c.in-Cut.length (t c.in-Cut.length_before)))
    c.cut.ensures.ok

pub returns-in-Take-clause-ok : goal.returns-in-Take-clause-ok
returns-in-Take-clause-ok c =
    ok_so c.take.result
    (λ t. subst (λ (e : Edit). TakesIn c.args.chosen.now e c.args.self.now c.take.new.self) (sym c.in-Take.is)
    (take_taken c.args.chosen.now c.args.self.now c.take.new.self c.in-Take.pipe c.in-Take.count t))
    c.take.ensures.ok

pub returns-in-Append-clause-ok : goal.returns-in-Append-clause-ok
returns-in-Append-clause-ok c =
    ok_so c.append-noted.result
    (λ t. subst (λ (e : Edit). TakesIn c.args.chosen.now e c.args.self.now c.append-noted.new.self) (sym c.in-Append.is)
    (append_taken c.args.chosen.now c.args.self.now c.append-noted.new.self c.in-Append.pipe c.in-Append.bytes t))
    c.append-noted.ensures.ok

pub returns-in-SetRights-clause-ok : goal.returns-in-SetRights-clause-ok
returns-in-SetRights-clause-ok c =
    ok_so c.set_rights.result
    (λ t. subst (λ (e : Edit). TakesIn c.args.chosen.now e c.args.self.now c.set_rights.new.self) (sym c.in-SetRights.is) (t c.args.chosen.now))
    c.set_rights.ensures.ok

pub returns-in-MakePipe-clause-ok : goal.returns-in-MakePipe-clause-ok
returns-in-MakePipe-clause-ok c =
    let chosen : List ℕ = c.args.chosen.now in
    let count = subst (λ (e : Edit). news e ≤ length chosen) c.in-MakePipe.is c.requires.count in
    let first = subst IsFirst c.in-MakePipe.is c.requires.first in
    let here : c.index-chosen-0.result ≡ new_in chosen 0 = get_or_read chosen 0 c.index-chosen-0.result (omega (arith, count)) c.index-chosen-0.is 0 in
    let next : c.index-chosen-1.result ≡ new_in chosen 1 = get_or_read chosen 1 c.index-chosen-1.result (omega (arith, count)) c.index-chosen-1.is 0 in
    let last : c.index-chosen-2.result ≡ new_in chosen 2 = get_or_read chosen 2 c.index-chosen-2.result (omega (arith, count)) c.index-chosen-2.is 0 in
    ok_so c.make_pipe.result
    (λ t. subst (λ (e : Edit). TakesIn chosen e c.args.self.now c.make_pipe.new.self) (sym c.in-MakePipe.is)
    (pipe_taken chosen c.args.self.now c.make_pipe.new.self c.index-chosen-0.result c.index-chosen-1.result c.index-chosen-2.result c.in-MakePipe.index c.in-MakePipe.process c.in-MakePipe.reader c.in-MakePipe.writer first.0 here next last t))
    c.make_pipe.ensures.ok
