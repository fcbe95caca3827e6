use Rattle.std.proofs.Common.{◌≡◌, ◌<◌, ◌≤◌, ℕ, List, length, arith, sym, subst, ap, ◌∙◌}
use Rattle.std.proofs.lemmas.List.{get_or_read}
use Rattle.model.specs.State.{Kernel}
use Rattle.model.specs.Changes.{Edit, applied, news, tidy}
use Rattle.call_laws.specs.Fits.{Fits}
use Rattle.notes.specs.Steps.{IsNaming, new_in}
use Rattle.shadow.proofs.edits.UnusedNumbers.{same_directory, same_file, same_fixed, same_linking}
use Rattle.shadow.proofs.edits.UnusedNumbers.{same_moving, same_unnaming}
use Rattle.notes.specs.declared.change.Made.TheVariants.{Directory as A_directory, File as A_file}
use Rattle.shadow.proofs.stable.Stable.perform_naming.Goals as goal

pub returns-in-MakeDirectory-clause-state : goal.returns-in-MakeDirectory-clause-state
returns-in-MakeDirectory-clause-state c =
    let chosen : List ℕ = c.args.chosen.now in
    let count = subst (λ (e : Edit). news e ≤ length chosen) c.in-MakeDirectory.is c.requires.count
    in
    let low : 0 < length chosen = omega (arith, count) in
    let at : c.index-chosen-0.result ≡ new_in chosen 0 =
    get_or_read chosen 0 c.index-chosen-0.result low c.index-chosen-0.is 0 in
    c.make_directory.ensures.state
    ∙ ap (λ (k : Kernel). tidy k)
    (same_directory chosen c.in-MakeDirectory.parent c.in-MakeDirectory.name
    c.index-chosen-0.result c.in-MakeDirectory.index
    (subst IsNaming c.in-MakeDirectory.is c.requires.naming) at c.args.self.now.state)
    ∙ ap (λ (e : Edit). tidy (applied chosen e c.args.self.now.state)) (sym c.in-MakeDirectory.is)

pub returns-in-MakeFile-clause-state : goal.returns-in-MakeFile-clause-state
returns-in-MakeFile-clause-state c =
    let chosen : List ℕ = c.args.chosen.now in
    let count = subst (λ (e : Edit). news e ≤ length chosen) c.in-MakeFile.is c.requires.count in
    let low : 0 < length chosen = omega (arith, count) in
    let at : c.index-chosen-0-in-MakeFile.result ≡ new_in chosen 0 =
    get_or_read chosen 0 c.index-chosen-0-in-MakeFile.result low c.index-chosen-0-in-MakeFile.is
    0 in
    c.make_file.ensures.state
    ∙ ap (λ (k : Kernel). tidy k)
    (same_file chosen c.in-MakeFile.parent c.in-MakeFile.name
    c.index-chosen-0-in-MakeFile.result c.in-MakeFile.index
    (subst IsNaming c.in-MakeFile.is c.requires.naming) at c.args.self.now.state)
    ∙ ap (λ (e : Edit). tidy (applied chosen e c.args.self.now.state)) (sym c.in-MakeFile.is)

pub returns-in-MakeFixed-clause-state : goal.returns-in-MakeFixed-clause-state
returns-in-MakeFixed-clause-state c =
    let chosen : List ℕ = c.args.chosen.now in
    let count = subst (λ (e : Edit). news e ≤ length chosen) c.in-MakeFixed.is c.requires.count in
    let low : 0 < length chosen = omega (arith, count) in
    let at : c.index-chosen-0-in-MakeFixed.result ≡ new_in chosen 0 =
    get_or_read chosen 0 c.index-chosen-0-in-MakeFixed.result low c.index-chosen-0-in-MakeFixed.is
    0 in
    c.make_fixed.ensures.state
    ∙ ap (λ (k : Kernel). tidy k)
    (same_fixed chosen c.in-MakeFixed.parent c.in-MakeFixed.name
    c.index-chosen-0-in-MakeFixed.result c.in-MakeFixed.index
    (subst IsNaming c.in-MakeFixed.is c.requires.naming) at c.args.self.now.state
    c.in-MakeFixed.fixed)
    ∙ ap (λ (e : Edit). tidy (applied chosen e c.args.self.now.state)) (sym c.in-MakeFixed.is)

pub returns-in-NameFile-clause-state : goal.returns-in-NameFile-clause-state
returns-in-NameFile-clause-state c =
    c.link.ensures.state
    ∙ ap (λ (k : Kernel). tidy k)
    (same_linking c.args.chosen.now c.args.self.now.state c.in-NameFile.parent c.in-NameFile.name
    c.in-NameFile.file)
    ∙ ap (λ (e : Edit). tidy (applied c.args.chosen.now e c.args.self.now.state))
    (sym c.in-NameFile.is)

pub unname-requires : goal.unname-requires
unname-requires c = (A_file, subst (λ (e : Edit). Fits c.args.chosen.now c.args.self.now.state e) c.in-UnnameFile.is c.requires.fits)

pub returns-in-UnnameFile-clause-state : goal.returns-in-UnnameFile-clause-state
returns-in-UnnameFile-clause-state c =
    c.unname.ensures.state A_file (subst (λ (e : Edit). Fits c.args.chosen.now c.args.self.now.state e) c.in-UnnameFile.is c.requires.fits)
    ∙ ap (λ (k : Kernel). tidy k)
    (same_unnaming c.args.chosen.now c.args.self.now.state A_file c.in-UnnameFile.parent c.in-UnnameFile.name
    c.in-UnnameFile.file)
    ∙ ap (λ (e : Edit). tidy (applied c.args.chosen.now e c.args.self.now.state)) (sym c.in-UnnameFile.is)

pub unname-requires-in-UnnameDirectory : goal.unname-requires-in-UnnameDirectory
unname-requires-in-UnnameDirectory c = (A_directory, subst (λ (e : Edit). Fits c.args.chosen.now c.args.self.now.state e) c.in-UnnameDirectory.is c.requires.fits)

pub returns-in-UnnameDirectory-clause-state : goal.returns-in-UnnameDirectory-clause-state
returns-in-UnnameDirectory-clause-state c =
    c.unname-in-UnnameDirectory.ensures.state A_directory (subst (λ (e : Edit). Fits c.args.chosen.now c.args.self.now.state e) c.in-UnnameDirectory.is c.requires.fits)
    ∙ ap (λ (k : Kernel). tidy k)
    (same_unnaming c.args.chosen.now c.args.self.now.state A_directory c.in-UnnameDirectory.parent c.in-UnnameDirectory.name
    c.in-UnnameDirectory.directory)
    ∙ ap (λ (e : Edit). tidy (applied c.args.chosen.now e c.args.self.now.state)) (sym c.in-UnnameDirectory.is)

pub returns-in-Move-clause-state : goal.returns-in-Move-clause-state
returns-in-Move-clause-state c =
    c.rename.ensures.state
    ∙ ap (λ (k : Kernel). tidy k)
    (same_moving c.args.chosen.now c.args.self.now.state c.in-Move.from c.in-Move.old_name c.in-Move.to
    c.in-Move.new_name c.in-Move.inode c.in-Move.replaced)
    ∙ ap (λ (e : Edit). tidy (applied c.args.chosen.now e c.args.self.now.state))
    (sym c.in-Move.is)
