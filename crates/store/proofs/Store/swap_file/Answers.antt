use Rattle.std.proofs.Common.{Option, sym, ap, subst, ◌∙◌}
use Rattle.std.specs.Prelude.{IsSome}
use Rattle.std.specs.Option.{option_and_then, option_map}
use Rattle.store.specs.Numbers.{held}
use Rattle.store.specs.Places.{file_in, file_of, with_bytes, with_file}
use Rattle.store.specs.Shown.{descriptions, inodes}
use Rattle.store.specs.declared.OpenFile.{OpenFile}
use Rattle.store.specs.declared.Place.{Place}
use Rattle.store.proofs.Counted.{counted-altered, kept-file}
use Rattle.store.proofs.Rows.{slot, store-altered}
use Rattle.store.proofs.Changes.{descriptions-filed, inodes-swapped}
use Rattle.store.proofs.Store.swap_file.Goals as goal

pub swap_file_at-requires : goal.swap_file_at-requires
swap_file_at-requires c = subst (λ (o : Option Place). IsSome (option_and_then file_of (held o))) (sym (slot _ c.self.inside.headers _ c.self.view_is _ _ c.num.view_is)) c.requires

pub invariant_of-self : goal.invariant_of-self
invariant_of-self c = counted-altered (with_file (with_bytes c.args.bytes)) _ _ _ c.self.invariant c.swap_file_at.ensures.swapped (λ header _. kept-file (with_bytes c.args.bytes) header)

pub returns-clause-former : goal.returns-clause-former
returns-clause-former c = ap (λ (o : Option Place). option_map (λ (f : OpenFile). f.bytes) (file_in o)) (sym (slot _ c.self.inside.headers _ c.self.view_is _ _ c.num.view_is)) ∙ c.swap_file_at.ensures.former

pub returns-clause-swapped : goal.returns-clause-swapped
returns-clause-swapped c = store-altered _ _ _ _ c.self.view_is _ _ c.num.view_is (with_file (with_bytes c.args.bytes)) c.swap_file_at.ensures.swapped

pub returns-clause-shown : goal.returns-clause-shown
returns-clause-shown c = ap inodes (returns-clause-swapped c) ∙ inodes-swapped c.args.bytes c.args.self.now c.args.num c.requires

pub returns-clause-open : goal.returns-clause-open
returns-clause-open c = ap descriptions (returns-clause-swapped c) ∙ descriptions-filed (with_bytes c.args.bytes) c.args.self.now c.args.num
