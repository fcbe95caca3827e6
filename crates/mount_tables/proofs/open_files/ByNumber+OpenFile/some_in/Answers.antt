use Rattle.std.proofs.Common.{◌≡◌, ◌≢◌, ℕ, List, Some, nat_eq, map, rules, sym, subst, ◌∙◌}
use Rattle.std.specs.Cmp.{nat_cmp_total, nat_eq_equiv, unsigned_ties}
use Rattle.std.specs.List.{All}
use Rattle.std.specs.Map.{lookup}
use Rattle.std.specs.Map.Iter.{deref_pair}
use Rattle.std.specs.Option.{IfSome}
use Rattle.std.proofs.lemmas.List.Elements.{All-map}
use Rattle.std.proofs.lemmas.Map.Entries.{All-lookup}
use Rattle.std.proofs.lemmas.Map.Iter.{hash_map_turn, iter_end}
use Rattle.model.specs.FiniteMap as finite
use Rattle.model.proofs.Laws.{get_at}
use Rattle.mount_tables.specs.declared.open_files.OpenFile.{OpenFile}
use Rattle.mount_tables.proofs.Written.{same_get}
use Rattle.mount_tables.proofs.open_files.ByNumber+OpenFile.some_in.Goals as goal

pub returns-then-file-view : goal.returns-then-file-view
returns-then-file-view c =
    let turn = hash_map_turn deref_pair c.loop-handle.yielded c.into_iter-handle-iterator.result c.loop-handle.handle-iterator c.next.new.self c.next.result (c.in-Some.handle, c.in-Some.file) c.loop-handle.yielded_by c.in-Some.is c.next.ensures.steps nat_eq_equiv c.self.inside.rows (search rules) (search rules) in (
      sym (same_get c.self.view_is c.in-Some.handle.now)
          ∙ get_at nat_cmp_total finite.nat_cmp-IsAntisymmetric nat_eq unsigned_ties c.self.inside.rows.entries c.in-Some.handle.now
          ∙ turn.1,
      c.if-file-view.true,
    )

not_this : (P : OpenFile → Type 0) (file : OpenFile) (es : List (ℕ × OpenFile)) (handle : ℕ) → IfSome (lookup (nat_eq handle) es) P → lookup (nat_eq handle) es ≡ Some file → P file
not_this P file es handle all is = rw is at all

pub returns : goal.returns
returns c = λ handle file is same.
    let whole : map deref_pair c.loop-handle.yielded ≡ c.self.inside.rows.entries = search (rules, iter_end) in
    let P : OpenFile → Type 0 = λ f. f.view ≢ c.args.view in
    let all = subst (All (λ e. P e.1)) whole (All-map (λ e. P e.1) deref_pair c.loop-handle.yielded c.loop-handle.invariant.2) in
    let there = sym (get_at nat_cmp_total finite.nat_cmp-IsAntisymmetric nat_eq unsigned_ties c.self.inside.rows.entries handle) ∙ same_get c.self.view_is handle ∙ is in
    not_this P file c.self.inside.rows.entries handle (All-lookup P (nat_eq handle) c.self.inside.rows.entries all) there same
