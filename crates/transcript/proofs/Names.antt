-- Names one after another, with commas.
use Rattle.std.proofs.Common.{◌≡◌, ℕ, List, [], ◌∷◌, ◌++◌, Bool, true, false, ◌||◌, sym, ap, ◌∙◌, append_assoc, append-nil, refl, codes}
use Rattle.std.specs.Prelude.{Option, flat_map}
use Rattle.std.proofs.lemmas.List.Concat.{flat_map-append}
use Rattle.ids.specs.declared.flags.OpenFlags.{OpenFlags}
use Rattle.ids.specs.Flags.{is_reading, is_writing, is_creating, is_exclusive, is_truncating, is_appending}
use Rattle.transcript.specs.Flags.{PrintsNames, access_names, flag_names, has_any, listed, name_if, next_name, with_comma, with_commas}
use Rattle.transcript.specs.Printer.{Prints}
use Rattle.transcript.specs.declared.printer.Printer.{Printer}
use Rattle.transcript.proofs.Printing.{Prints-as, Prints-then}

with_commas-next : (names : List (List ℕ)) (has : Bool) (name : List ℕ) → with_commas names ++ next_name (has_any names) has name ≡ with_commas (names ++ name_if has name)
with_commas-next names false name = append-nil (with_commas names) ∙ ap with_commas (sym (append-nil names))
with_commas-next [] true name = sym (append-nil name)
with_commas-next (first ∷ names) true name =
    append_assoc first (flat_map with_comma names) (with_comma name)
    ∙ ap (λ (t : List ℕ). first ++ t)
    (ap (λ (t : List ℕ). flat_map with_comma names ++ t) (sym (append-nil (with_comma name))) ∙ sym (flat_map-append with_comma names (name ∷ [])))

has_any-next : (names : List (List ℕ)) (has : Bool) (name : List ℕ) → has_any (names ++ name_if has name) ≡ (has_any names || has)
has_any-next [] true name = refl
has_any-next [] false name = refl
has_any-next (first ∷ names) has name = refl

pub has_any-access : (reads writes : Bool) → has_any (access_names reads writes) ≡ (reads || writes)
has_any-access true true = refl
has_any-access true false = refl
has_any-access false true = refl
has_any-access false false = refl

-- one more name, where the set has its flag
pub PrintsNames-next : {S : Type 0} {written : S → Option (List ℕ)} {failures : S → ℕ} {a b c : Printer S} (names : List (List ℕ)) (any more has : Bool) (name : List ℕ)
    → PrintsNames written failures a b names any → Prints written failures b c (next_name any has name) → more ≡ (any || has)
    → PrintsNames written failures a c (names ++ name_if has name) more
PrintsNames-next names any more has name p q is = record {
  printed = Prints-as (Prints-then _ _ p.printed q) (ap (λ (b : Bool). with_commas names ++ next_name b has name) p.known ∙ with_commas-next names has name);
  known = is ∙ ap (λ (b : Bool). b || has) p.known ∙ sym (has_any-next names has name);
}

-- the same names in other words
pub PrintsNames-as : {S : Type 0} {written : S → Option (List ℕ)} {failures : S → ℕ} {a b : Printer S} {names others : List (List ℕ)} {any : Bool}
    → PrintsNames written failures a b names any → names ≡ others → PrintsNames written failures a b others any
PrintsNames-as p e = record { printed = Prints-as p.printed (ap with_commas e); known = p.known ∙ ap has_any e }

-- names that are there are listed as they are
listed-some : (names : List (List ℕ)) → has_any names ≡ true → with_commas names ≡ listed names
listed-some [] e = cc e
listed-some (first ∷ names) e = refl

listed-none : (names : List (List ℕ)) → has_any names ≡ false → with_commas names ++ codes "-" ≡ listed names
listed-none [] e = refl
listed-none (first ∷ names) e = cc e

pub Prints-listed : {S : Type 0} {written : S → Option (List ℕ)} {failures : S → ℕ} {a b : Printer S} (names : List (List ℕ)) (any : Bool)
    → PrintsNames written failures a b names any → any ≡ true → Prints written failures a b (listed names)
Prints-listed names any p is = Prints-as p.printed (listed-some names (sym p.known ∙ is))

pub Prints-listed_none : {S : Type 0} {written : S → Option (List ℕ)} {failures : S → ℕ} {a b c : Printer S} (names : List (List ℕ)) (any : Bool)
    → PrintsNames written failures a b names any → any ≡ false → Prints written failures b c (codes "-") → Prints written failures a c (listed names)
Prints-listed_none names any p is q = Prints-as (Prints-then _ _ p.printed q) (listed-none names (sym p.known ∙ is))

-- the names of flags of which each is known by itself
abbrev pub names_by : Bool → Bool → Bool → Bool → Bool → Bool → List (List ℕ)
names_by reads writes creates exclusive truncates appends =
    access_names reads writes ++ name_if creates (codes "CREAT") ++ name_if exclusive (codes "EXCL")
    ++ name_if truncates (codes "TRUNC") ++ name_if appends (codes "APPEND")

pub names_by-flags : (flags : OpenFlags) {r w c e t a : Bool} → r ≡ is_reading flags → w ≡ is_writing flags → c ≡ is_creating flags
    → e ≡ is_exclusive flags → t ≡ is_truncating flags → a ≡ is_appending flags → names_by r w c e t a ≡ flag_names flags
names_by-flags flags is_r is_w is_c is_e is_t is_a = cc
