-- What is read at the front of bytes, where the form of an entry is there.
use Rattle.std.proofs.Common.{◌≡◌, ℕ, List, ◌++◌, length, ◌-◌, Ok, Err, refl, sym, ap, ◌∙◌}
use Rattle.ids.specs.declared.entry.Entry.{Entry}
use Rattle.entry_codec.specs.declared.fault.ReadError.{ReadError}
use Rattle.entry_codec.specs.declared.fault.ReadError.TheVariants as errors
use Rattle.entry_codec.specs.Entries.{entry_bytes, IsEntry}
use Rattle.entry_codec.specs.Reading.{Fails}
use Rattle.entry_codec.specs.ReadingEntries.{entry_at, entry_in}
use Rattle.entry_codec.proofs.Formats.{IsBytes, done, ok_is}
use Rattle.entry_codec.proofs.EntryForms.{entry_format, entry_found}

-- what is read, where the form of an entry is at the front: that entry, and how many bytes it has
pub entry_only : (bytes rest more : List ℕ) (found e : Entry) → IsBytes bytes → entry_at bytes ≡ Ok (found, rest) → IsEntry e → bytes ≡ entry_bytes e ++ more
    → done {A = Entry × ℕ} (e, length (entry_bytes e)) ≡ done {A = Entry × ℕ} (found, length bytes - length rest)
entry_only bytes rest more found e fits read p same =
    let first : Entry × List ℕ = (e, more) in
    let second : Entry × List ℕ = (found, rest) in
    let both : done first ≡ done second = sym (ap entry_at same ∙ entry_format.again e more p) ∙ read in
    let is : e ≡ found = ap (λ (y : Entry × List ℕ). y.0) (ok_is first second both) in
    let size = (entry_found bytes rest found fits read).1.1 in
    ap (λ (y : Entry). done {A = Entry × ℕ} (y, length (entry_bytes y))) is ∙ ap (λ (n : ℕ). done {A = Entry × ℕ} (found, n)) (sym size)

-- where reading fails no form of an entry is at the front
pub entry_fails : (why : ReadError) (bytes more : List ℕ) (e : Entry) → Fails why (entry_at bytes) → IsEntry e → bytes ≡ entry_bytes e ++ more
    → Fails why (done {A = Entry × ℕ} (e, length (entry_bytes e)))
entry_fails errors.NoMemory bytes more e fails p same = tt
entry_fails (errors.Fault fault) bytes more e fails p same =
    let none : done {A = Entry × List ℕ} (e, more) ≡ Err fault = sym (ap entry_at same ∙ entry_format.again e more p) ∙ fails in
    absurd cc

-- what fails at the front fails in whole
pub entry_in_fails : (why : ReadError) (bytes : List ℕ) → Fails why (entry_at bytes) → Fails why (entry_in bytes)
entry_in_fails errors.NoMemory bytes fails = tt
entry_in_fails (errors.Fault fault) bytes fails = rw fails refl
