use Rattle.std.proofs.Common.{◌≡◌, ℕ, List, [], ◌∷◌, ◌++◌, refl, sym, ap, subst, ◌∙◌}
use Rattle.commit_log.specs.File.{Reads}
use Rattle.commit_log.specs.Log.{disk_of, key_of, Stands}
use Rattle.model.specs.Moments.{Setup}
use Rattle.machine.specs.Shown.{setup_of}
use Rattle.store_form.specs.Setups.{setup_bytes, IsSetup}
use Rattle.kept.proofs.Holding.{holds_begun}
use Rattle.kept.proofs.store.Store.begin.Goals as goal

pub returns-clause-holds : goal.returns-clause-holds
returns-clause-holds g c = λ history is stands.
    let setup : Setup = record { priorities = c.args.priorities.now; bounds = c.args.bounds } in
    let written : c.put_setup.new.out.items ≡ setup_bytes setup = c.in_ok-put_setup.ensures.ok ∙ ap (λ (bs : List ℕ). bs ++ setup_bytes setup) c.new-bytes.ensures.items in
    let payload : c.as_slice.result.now ≡ setup_bytes (setup_of history) = c.as_slice.ensures.value ∙ written ∙ sym (ap setup_bytes is) in
    let appended : Stands c.append.new.self [] (c.as_slice.result.now ∷ []) = c.in_ok-append.ensures.appended [] [] stands in
    holds_begun _ history (subst IsSetup (sym is) c.in_ok-put_setup.ensures.fits)
    (subst (λ (p : List ℕ). Stands c.keep.new.self (p ∷ []) []) payload (c.in_ok-keep.ensures.kept [] (c.as_slice.result.now ∷ []) appended))
    (subst (λ (p : List ℕ). (file : List ℕ) → g.D.Disk.may_leave (disk_of c.keep.new.self) file → Reads (key_of c.keep.new.self) file (p ∷ [])) payload (c.in_ok-keep.ensures.acknowledged [] (c.as_slice.result.now ∷ []) appended))
    refl c.new.ensures.items
