use Rattle.std.proofs.Common.{List, ℕ, Option, sym, ap, subst, ◌∙◌}
use Rattle.std.specs.Prelude.{IsSome}
use Rattle.std.specs.Option.{option_and_then}
use Rattle.model.specs.Changes.{written}
use Rattle.store.specs.Numbers.{held}
use Rattle.store.specs.Places.{content_of, file_in, file_of, with_bytes, with_file}
use Rattle.store.specs.declared.Place.{Place}
use Rattle.store.proofs.Counted.{counted-altered, kept-file}
use Rattle.store.proofs.Outcomes.{either_way, on_err_by, on_ok_by}
use Rattle.store.proofs.Rows.{slot, store-altered}
use Rattle.store.proofs.Changes.{bytes-shown}
use Rattle.store.proofs.Store.write_file.Goals as goal

pub write_file_at-requires-clause-file : goal.write_file_at-requires-clause-file
write_file_at-requires-clause-file c = subst (λ (o : Option Place). IsSome (option_and_then file_of (held o))) (sym (slot _ c.self.inside.headers _ c.self.view_is _ _ c.num.view_is)) c.requires.file

pub invariant_of-self : goal.invariant_of-self
invariant_of-self c =
    either_way c.write_file_at.result
    (on_ok_by c.write_file_at.result (λ w. counted-altered (with_file (with_bytes w.content)) _ _ _ c.self.invariant w.rest (λ header _. kept-file (with_bytes w.content) header)) c.write_file_at.ensures.ok)
    (on_err_by c.write_file_at.result (λ w. counted-altered (with_file (with_bytes w.content)) _ _ _ c.self.invariant w.rest (λ header _. kept-file (with_bytes w.content) header)) c.write_file_at.ensures.err)

pub returns-clause-ok : goal.returns-clause-ok
returns-clause-ok c = on_ok_by c.write_file_at.result
    (λ w. record {
      content = w.content;
      bytes_are = w.bytes_are ∙ ap (λ (bs : List ℕ). written bs c.args.offset c.args.bytes.now)
          (ap (λ (o : Option Place). (content_of (file_in o)).bytes) (slot _ c.self.inside.headers _ c.self.view_is _ _ c.num.view_is) ∙ bytes-shown c.args.self.now c.args.num c.requires.file);
      rest = store-altered _ _ _ _ c.self.view_is _ _ c.num.view_is (with_file (with_bytes w.content)) w.rest;
    })
    c.write_file_at.ensures.ok

pub returns-clause-err : goal.returns-clause-err
returns-clause-err c = on_err_by c.write_file_at.result
    (λ w. record {
      content = w.content;
      bytes_are = w.bytes_are
          ∙ ap (λ (o : Option Place). (content_of (file_in o)).bytes) (slot _ c.self.inside.headers _ c.self.view_is _ _ c.num.view_is) ∙ bytes-shown c.args.self.now c.args.num c.requires.file;
      rest = store-altered _ _ _ _ c.self.view_is _ _ c.num.view_is (with_file (with_bytes w.content)) w.rest;
    })
    c.write_file_at.ensures.err
