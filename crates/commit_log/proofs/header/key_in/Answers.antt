use Rattle.std.proofs.Common.{◌≡◌, ℕ, take, ◌∙◌, sym, ap, arith, rules}
use Rattle.sqlite_disk.specs.Digest.{digest}
use Rattle.commit_log.specs.File.{magic, version}
use Rattle.commit_log.specs.Frame.{number}
use Rattle.commit_log.proofs.Spelled.{spelled_header, header_magic, header_key, header_digest, same_number}
use Rattle.commit_log.proofs.header.key_in.Goals as goal

pub returns-clause-key : goal.returns-clause-key
returns-clause-key c =
    spelled_header c.number_at.result c.number_at-version.result c.number_at-key.result c.number_at-digest.result c.args.bytes.now c.requires c.number_at.ensures (omega arith) c.number_at-version.ensures (omega arith) c.number_at-key.ensures c.number_at-digest.ensures (search rules)

pub returns-then-number_at-ne-MAGIC-clause-refused : goal.returns-then-number_at-ne-MAGIC-clause-refused
returns-then-number_at-ne-MAGIC-clause-refused c = (
  λ key fits is. c.if-number_at-ne-MAGIC.true (same_number c.number_at.result magic (omega arith) (omega arith) (c.number_at.ensures ∙ header_magic key c.args.bytes.now is)),
  λ v fits magic_at version_at. absurd (c.if-number_at-ne-MAGIC.true (same_number c.number_at.result magic (omega arith) (omega arith) (c.number_at.ensures ∙ magic_at))),
)

pub returns-then-digest-digest_of-clause-refused : goal.returns-then-digest-digest_of-clause-refused
returns-then-digest-digest_of-clause-refused c = (
  λ key fits is.
      let bytes = c.args.bytes.now in
      let same_key : c.number_at-key.result ≡ key = same_number c.number_at-key.result key (omega arith) fits (c.number_at-key.ensures ∙ header_key key bytes is) in
      let told : c.digest_of.result ≡ digest c.number_at-key.result (take 24 bytes) = search rules in
      c.if-digest-digest_of.true (same_number c.number_at-digest.result c.digest_of.result (omega arith) (omega arith)
      (c.number_at-digest.ensures ∙ header_digest key bytes is ∙ ap (λ (k : ℕ). number (digest k (take 24 bytes))) (sym same_key) ∙ ap number (sym told))),
  λ v fits magic_at version_at.
      let known : c.number_at-version.result ≡ version = omega arith in
      same_number v c.number_at-version.result fits (omega arith) (sym version_at ∙ sym c.number_at-version.ensures) ∙ known,
)
