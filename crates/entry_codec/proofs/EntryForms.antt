-- The form of an entry, and that of a record.
use Rattle.std.proofs.Common.{◌≡◌, ℕ, ◌<◌, ◌^◌, List, [], ◌++◌, length, Result, Ok, Err, refl, sym, ap, subst, ◌∙◌, cond, eqb, ◌-◌, ◌+◌, ◌≤◌, drop, arith, length-append}
use Rattle.std.proofs.lemmas.Bool.{eqb-true}
use Rattle.std.proofs.lemmas.List.{append-nil, nil_from_length, drop_at}
use Rattle.std.specs.Prelude.{IfOk}
use Rattle.ids.specs.declared.entry.Entry.{Entry}
use Rattle.entry_codec.specs.declared.fault.ReadError.{ReadError}
use Rattle.entry_codec.specs.declared.fault.Wrong.TheVariants as wrong
use Rattle.entry_codec.specs.Parts.{IsList}
use Rattle.entry_codec.specs.Entries.{nums_bytes, pids_bytes, entry_bytes, IsEntry, entries_bytes, AreEntries}
use Rattle.entry_codec.specs.Reading.{Read, ◌>>=◌, fault_at, Gives, list_at}
use Rattle.entry_codec.specs.ReadingEntries.{nums_at, pids_at, entry_from, entry_at, entries_in}
use Rattle.entry_codec.proofs.Formats.{IsBytes, Takes, IsFormat, bind_ok, holds_ok, ok_is, done, five_takes, five_again}
use Rattle.entry_codec.proofs.PartForms.{u32_format, u64_format, list_format}
use Rattle.entry_codec.proofs.CallForms.{op_format}
use Rattle.entry_codec.proofs.ReplyForms.{reply_format}

nums_format : IsFormat nums_bytes (IsList (λ n. n < 2 ^ 64)) nums_at
nums_format = list_format u64_format

pids_format : IsFormat pids_bytes (IsList (λ n. n < 2 ^ 32)) pids_at
pids_format = list_format u32_format

entry_takes : (bytes : List ℕ) (x : Entry × List ℕ) → IsBytes bytes → entry_at bytes ≡ Ok x → Takes bytes (entry_bytes x.0) x.1 × IsEntry x.0
unfolding entry_at entry_bytes
entry_takes bytes x fits e =
    five_takes u32_format op_format reply_format nums_format pids_format entry_from bytes x (λ (y : Entry × List ℕ). Takes bytes (entry_bytes y.0) y.1 × IsEntry y.0) fits e
    (λ pid op reply chosen doomed rest t p q r s o. (t, record { pid = p; op = q; reply = r; chosen = s; doomed = o }))

entry_again : (entry : Entry) (rest : List ℕ) → IsEntry entry → entry_at (entry_bytes entry ++ rest) ≡ Ok (entry, rest)
unfolding entry_at entry_bytes
entry_again entry rest fits = five_again u32_format op_format reply_format nums_format pids_format entry_from entry.pid entry.op entry.reply entry.chosen entry.doomed rest fits.pid fits.op fits.reply fits.chosen fits.doomed

pub entry_format : IsFormat entry_bytes IsEntry entry_at
entry_format = record { takes = entry_takes; again = entry_again }

-- what the front of the bytes is, where so many of them are left
pub entry_found : (bytes rest : List ℕ) (e : Entry) → IsBytes bytes → entry_at bytes ≡ Ok (e, rest)
    → (length rest ≤ length bytes) × (IsEntry e × (length bytes - length rest ≡ length (entry_bytes e)) × (bytes ≡ entry_bytes e ++ drop (length bytes - length rest) bytes))
entry_found bytes rest e fits read =
    let t = entry_takes bytes (e, rest) fits read in
    let whole : length bytes ≡ length (entry_bytes e) + length rest = ap length t.0.parts ∙ length-append (entry_bytes e) rest in
    let size : length bytes - length rest ≡ length (entry_bytes e) = omega arith in
    let left : drop (length bytes - length rest) bytes ≡ rest = ap (λ (n : ℕ). drop n bytes) size ∙ ap (λ (b : List ℕ). drop (length (entry_bytes e)) b) t.0.parts ∙ drop_at (entry_bytes e) rest (length (entry_bytes e)) refl in
    (omega arith, (t.1, size, t.0.parts ∙ ap (λ (r : List ℕ). entry_bytes e ++ r) (sym left)))

-- no entry's bytes begin another's
pub one_form : (e f : Entry) (rest more : List ℕ) → IsEntry e → IsEntry f → entry_bytes e ++ rest ≡ entry_bytes f ++ more → (e ≡ f) × (rest ≡ more)
one_form e f rest more p q same =
    let both : done {A = Entry × List ℕ} (e, rest) ≡ done {A = Entry × List ℕ} (f, more) = sym (entry_again e rest p) ∙ ap entry_at same ∙ entry_again f more q in
    let first : Entry × List ℕ = (e, rest) in
    let second : Entry × List ℕ = (f, more) in
    let pairs = ok_is first second both in
    (ap (λ (y : Entry × List ℕ). y.0) pairs, ap (λ (y : Entry × List ℕ). y.1) pairs)

-- ---- records

pub entries_take : (bytes : List ℕ) (entries : List Entry) → IsBytes bytes → entries_in bytes ≡ Ok entries → (bytes ≡ entries_bytes entries) × AreEntries entries
unfolding entries_in
entries_take bytes entries fits e =
    let a = bind_ok (list_at entry_at bytes) (λ x. cond (eqb (length x.1) 0) (Ok x.0) (Err (fault_at wrong.Trailing x.1))) entries e in
    let g = holds_ok (eqb (length a.0.1) 0) (fault_at wrong.Trailing a.0.1) a.0.0 entries a.2 in
    let t = (list_format entry_format).takes bytes a.0 fits a.1 in
    let nothing : a.0.1 ≡ [] = nil_from_length a.0.1 (eqb-true _ _ g.0) in
    let whole : bytes ≡ entries_bytes a.0.0 = t.0.parts ∙ ap (λ (r : List ℕ). entries_bytes a.0.0 ++ r) nothing ∙ append-nil (entries_bytes a.0.0) in
    subst (λ (y : List Entry). (bytes ≡ entries_bytes y) × AreEntries y) g.1 (whole, t.1)

pub entries_found : {V : Type 0} (items : V → List Entry) (bytes : List ℕ) (r : Result V ReadError) → IsBytes bytes → Gives items r (entries_in bytes) → IfOk r (λ v. AreEntries (items v) × (bytes ≡ entries_bytes (items v)))
entries_found items bytes (Ok v) fits given = let t = entries_take bytes (items v) fits given in (t.1, t.0)
entries_found items bytes (Err e) fits given = tt

pub entries_again : (entries : List Entry) → AreEntries entries → entries_in (entries_bytes entries) ≡ Ok entries
unfolding entries_in
entries_again entries fits =
    ap entries_in (sym (append-nil (entries_bytes entries)))
    ∙ ap (λ (y : Read (List Entry)). y >>= λ x. cond (eqb (length x.1) 0) (Ok x.0) (Err (fault_at wrong.Trailing x.1))) ((list_format entry_format).again entries [] fits)

pub one_record : (entries others : List Entry) → AreEntries entries → AreEntries others → entries_bytes entries ≡ entries_bytes others → entries ≡ others
one_record entries others p q same = ok_is entries others (sym (entries_again entries p) ∙ ap entries_in same ∙ entries_again others q)
