use Rattle.std.proofs.Common.{◌≡◌, ◌≤◌, ℕ, Some, None, arith, subst, rules, sym, ◌∙◌}
use Rattle.std.specs.Prelude.{Option, codes}
use Rattle.clap.specs.Words.{found_of, one_text, ReadsOne}
use Rattle.mount_words.specs.Options.{IsMost}
use Rattle.mount_words.specs.declared.TheConstants.{DEFAULT_BYTES, MAX_BYTES}
use Rattle.mount_words.proofs.Limits.{Reads, limit_none, limit_some}
use Rattle.mount_words.proofs.bytes_of.Goals as goal

pub returns-in-Some : goal.returns-in-Some
returns-in-Some c =
    let text = one_text (found_of c.args.matches.now) (codes "bytes") in
    let is : c.get_one.result ≡ Some c.in-Some.bytes = search rules in
    let least = limit_some 64 DEFAULT_BYTES MAX_BYTES text c.in-Some.bytes
    (λ e. sym is ∙ c.get_one.ensures.none e)
    (λ t e. subst (λ (r : Option ℕ). ReadsOne (Reads 64) t r) is (c.get_one.ensures.value t e)) in
    subst (λ (n : ℕ). IsMost 64 DEFAULT_BYTES MAX_BYTES text n) (sym c.min.ensures) least

pub returns-in-None : goal.returns-in-None
returns-in-None c =
    let is : c.get_one.result ≡ None = search rules in
    let small : DEFAULT_BYTES ≤ MAX_BYTES = omega arith in
    limit_none 64 DEFAULT_BYTES MAX_BYTES small (one_text (found_of c.args.matches.now) (codes "bytes"))
    (λ t e. subst (λ (r : Option ℕ). ReadsOne (Reads 64) t r) is (c.get_one.ensures.value t e))
