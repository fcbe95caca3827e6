use Rattle.std.proofs.Common.{◌≡◌, ◌<◌, ◌≤◌, ℕ, List, length, sym, subst, arith}
use Rattle.std.proofs.lemmas.List.{get_or_read}
use Rattle.model.specs.Changes.{Edit, news}
use Rattle.notes.specs.Steps.{IsNaming, TakesIn, new_in}
use Rattle.notes.specs.declared.change.Made.TheVariants.{Directory as A_directory, File as A_file}
use Rattle.notes.proofs.UnusedNumbers.{directory_taken, file_taken, fixed_taken}
use Rattle.notes.proofs.Outcomes.{ok_so}
use Rattle.notes.proofs.patches.Patches.note_naming.Goals as goal

pub returns-in-MakeDirectory-clause-ok : goal.returns-in-MakeDirectory-clause-ok
returns-in-MakeDirectory-clause-ok c =
    let chosen : List ℕ = c.args.chosen.now in
    let count = subst (λ (e : Edit). news e ≤ length chosen) c.in-MakeDirectory.is c.requires.count in
    let low : 0 < length chosen = omega (arith, count) in
    let at : c.index-chosen-0.result ≡ new_in chosen 0 = get_or_read chosen 0 c.index-chosen-0.result low c.index-chosen-0.is 0 in
    ok_so c.make.result
    (λ t. subst (λ (e : Edit). TakesIn chosen e c.args.self.now c.make.new.self) (sym c.in-MakeDirectory.is)
    (directory_taken chosen c.args.self.now c.make.new.self c.in-MakeDirectory.parent c.index-chosen-0.result c.in-MakeDirectory.index c.in-MakeDirectory.name (subst IsNaming c.in-MakeDirectory.is c.requires.naming) at t))
    c.make.ensures.ok

pub returns-in-MakeFile-clause-ok : goal.returns-in-MakeFile-clause-ok
returns-in-MakeFile-clause-ok c =
    let chosen : List ℕ = c.args.chosen.now in
    let count = subst (λ (e : Edit). news e ≤ length chosen) c.in-MakeFile.is c.requires.count in
    let low : 0 < length chosen = omega (arith, count) in
    let at : c.index-chosen-0-in-MakeFile.result ≡ new_in chosen 0 = get_or_read chosen 0 c.index-chosen-0-in-MakeFile.result low c.index-chosen-0-in-MakeFile.is 0 in
    ok_so c.make-in-MakeFile.result
    (λ t. subst (λ (e : Edit). TakesIn chosen e c.args.self.now c.make-in-MakeFile.new.self) (sym c.in-MakeFile.is)
    (file_taken chosen c.args.self.now c.make-in-MakeFile.new.self c.in-MakeFile.parent c.index-chosen-0-in-MakeFile.result c.in-MakeFile.index c.in-MakeFile.name (subst IsNaming c.in-MakeFile.is c.requires.naming) at t))
    c.make-in-MakeFile.ensures.ok

pub returns-in-MakeFixed-clause-ok : goal.returns-in-MakeFixed-clause-ok
returns-in-MakeFixed-clause-ok c =
    let chosen : List ℕ = c.args.chosen.now in
    let count = subst (λ (e : Edit). news e ≤ length chosen) c.in-MakeFixed.is c.requires.count in
    let low : 0 < length chosen = omega (arith, count) in
    let at : c.index-chosen-0-in-MakeFixed.result ≡ new_in chosen 0 = get_or_read chosen 0 c.index-chosen-0-in-MakeFixed.result low c.index-chosen-0-in-MakeFixed.is 0 in
    ok_so c.make-in-MakeFixed.result
    (λ t. subst (λ (e : Edit). TakesIn chosen e c.args.self.now c.make-in-MakeFixed.new.self) (sym c.in-MakeFixed.is)
    (fixed_taken chosen c.args.self.now c.make-in-MakeFixed.new.self c.in-MakeFixed.parent c.index-chosen-0-in-MakeFixed.result c.in-MakeFixed.index c.in-MakeFixed.name c.in-MakeFixed.fixed (subst IsNaming c.in-MakeFixed.is c.requires.naming) at t))
    c.make-in-MakeFixed.ensures.ok

pub returns-in-NameFile-clause-ok : goal.returns-in-NameFile-clause-ok
returns-in-NameFile-clause-ok c =
    ok_so c.link.result
    (λ t. subst (λ (e : Edit). TakesIn c.args.chosen.now e c.args.self.now c.link.new.self) (sym c.in-NameFile.is) (t c.args.chosen.now))
    c.link.ensures.ok

pub returns-in-UnnameFile-clause-ok : goal.returns-in-UnnameFile-clause-ok
returns-in-UnnameFile-clause-ok c =
    ok_so c.unname.result
    (λ t. subst (λ (e : Edit). TakesIn c.args.chosen.now e c.args.self.now c.unname.new.self) (sym c.in-UnnameFile.is) (t c.args.chosen.now A_file))
    c.unname.ensures.ok

pub returns-in-UnnameDirectory-clause-ok : goal.returns-in-UnnameDirectory-clause-ok
returns-in-UnnameDirectory-clause-ok c =
    ok_so c.unname-in-UnnameDirectory.result
    (λ t. subst (λ (e : Edit). TakesIn c.args.chosen.now e c.args.self.now c.unname-in-UnnameDirectory.new.self) (sym c.in-UnnameDirectory.is) (t c.args.chosen.now A_directory))
    c.unname-in-UnnameDirectory.ensures.ok

pub returns-in-Move-clause-ok : goal.returns-in-Move-clause-ok
returns-in-Move-clause-ok c =
    ok_so c.rename-noted.result
    (λ t. subst (λ (e : Edit). TakesIn c.args.chosen.now e c.args.self.now c.rename-noted.new.self) (sym c.in-Move.is) (t c.args.chosen.now))
    c.rename-noted.ensures.ok
