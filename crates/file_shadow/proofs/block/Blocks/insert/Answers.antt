use Rattle.std.proofs.Common.{◌≡◌, ◌+◌, ◌-◌, ◌≤◌, ℕ, List, ◌++◌, Option, None, length, take, replicate, sym, subst, ap, ◌∙◌, arith}
use Rattle.std.specs.List.{insert}
use Rattle.std.proofs.lemmas.List.{length-map}
use Rattle.ids.specs.declared.limits.TheConstants.{BLOCK_LEN}
use Rattle.file_shadow.specs.Arena.{AreApart, block_at, blocks_at}
use Rattle.file_shadow.proofs.Lying.{apart_more, grown_by, one_more}
use Rattle.file_shadow.proofs.block.Blocks.insert.Goals as goal

pub invariant_of-self : goal.invariant_of-self
invariant_of-self c =
    let places : List ℕ = c.self.inside.places.items in
    let old : List (Option ℕ) = c.self.inside.cells.items in
    let low : c.args.index ≤ length places = omega (arith, c.requires.within, ap (λ v. length v.blocks) c.self.view_is, length-map places (block_at old)) in
    let now : c.insert.new.self.items ≡ insert places c.args.index c.len-last.result = rw c.unwrap.ensures at c.insert.ensures.items in
    let count : c.len-last.result ≡ length places = c.len-last.ensures ∙ c.self.inside.places.ok.0 in
    let size : c.len-len.result ≡ length old = c.len-len.ensures ∙ c.self.inside.cells.ok.0 in
    let bytes : c.resize.new.self.items ≡ take (c.len-len.result + BLOCK_LEN) old ++ replicate (c.len-len.result + BLOCK_LEN - c.self.inside.cells.len) None = (rw c.unwrap-2.ensures at c.resize.ensures.items) ∙ ap (λ (e : Option ℕ). take (c.len-len.result + BLOCK_LEN) old ++ replicate (c.len-len.result + BLOCK_LEN - c.self.inside.cells.len) e) c.empty.ensures in
    let new : c.resize.new.self.items ≡ old ++ replicate BLOCK_LEN None = grown_by old c.resize.new.self.items c.len-len.result c.self.inside.cells.len size c.self.inside.cells.ok.0 bytes in
    subst (λ (ps : List ℕ). AreApart ps c.resize.new.self.items) (sym (now ∙ ap (insert places c.args.index) count)) (apart_more places old c.resize.new.self.items c.args.index low c.self.invariant new)

pub returns-clause-blocks : goal.returns-clause-blocks
returns-clause-blocks c =
    let places : List ℕ = c.self.inside.places.items in
    let old : List (Option ℕ) = c.self.inside.cells.items in
    let low : c.args.index ≤ length places = omega (arith, c.requires.within, ap (λ v. length v.blocks) c.self.view_is, length-map places (block_at old)) in
    let now : c.insert.new.self.items ≡ insert places c.args.index c.len-last.result = rw c.unwrap.ensures at c.insert.ensures.items in
    let count : c.len-last.result ≡ length places = c.len-last.ensures ∙ c.self.inside.places.ok.0 in
    let size : c.len-len.result ≡ length old = c.len-len.ensures ∙ c.self.inside.cells.ok.0 in
    let bytes : c.resize.new.self.items ≡ take (c.len-len.result + BLOCK_LEN) old ++ replicate (c.len-len.result + BLOCK_LEN - c.self.inside.cells.len) None = (rw c.unwrap-2.ensures at c.resize.ensures.items) ∙ ap (λ (e : Option ℕ). take (c.len-len.result + BLOCK_LEN) old ++ replicate (c.len-len.result + BLOCK_LEN - c.self.inside.cells.len) e) c.empty.ensures in
    let new : c.resize.new.self.items ≡ old ++ replicate BLOCK_LEN None = grown_by old c.resize.new.self.items c.len-len.result c.self.inside.cells.len size c.self.inside.cells.ok.0 bytes in
    ap (blocks_at c.resize.new.self.items) (now ∙ ap (insert places c.args.index) count) ∙ one_more places old c.resize.new.self.items c.args.index low c.self.invariant new
    ∙ ap (λ v. insert v.blocks c.args.index (replicate BLOCK_LEN None)) c.self.view_is
