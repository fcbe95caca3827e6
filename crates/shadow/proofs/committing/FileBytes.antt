-- The bytes of a file are laid over those that stand there.
use Rattle.std.proofs.Common.{◌≡◌, ◌≢◌, ℕ, List, [], Option, Some, refl, sym, ap, subst, ◌∙◌}
use Rattle.std.specs.Prelude.{IsSome}
use Rattle.std.specs.Option.{option_and_then, option_map}
use Rattle.model.specs.FiniteMap.{get}
use Rattle.model.proofs.Laws.{get_other, get_same}
use Rattle.call_laws.proofs.Laws.{some_same}
use Rattle.file_shadow.specs.View.{FileChanges, view_over}
use Rattle.objects.specs.Pieces.{FileContent}
use Rattle.store.specs.Numbers.{Numbers, coming, held, object_at, present}
use Rattle.store.specs.Places.{altered, file_in, file_of, openings_of, with_bytes, with_file}
use Rattle.store.specs.declared.OpenFile.{OpenFile}
use Rattle.store.specs.declared.Place.{Place}
use Rattle.store.specs.declared.Object.TheVariants.{File as A_file, Nothing}
use Rattle.store.proofs.Laws.{place-altered, place-other, with_place}
use Rattle.shadow.specs.Laid.{IsWrittenOver, bytes_in}

-- a file with these bytes, which nothing opens
abbrev pub unopened : FileContent → Place
unopened content = present (A_file (record { bytes = content; openings = 0 }))

-- a new file
module _ (s t : Numbers) (n : ℕ) (content : FileContent) (is : t ≡ with_place s n (unopened content)) where
  pub written_new : (bytes : FileChanges) (before : List ℕ) → get s.places n ≡ Some (coming Nothing) → before ≡ [] → content.bytes ≡ view_over bytes before → IsWrittenOver bytes (get s.places n) (get t.places n)
  written_new bytes before there none seen = record {
    content = content;
    place = ap (λ (t : Numbers). get t.places n) is ∙ get_same s.places n (unopened content) ∙ ap (λ o. Some (present (A_file (record { bytes = content; openings = openings_of (file_in o) })))) (sym there);
    shown = seen ∙ ap (view_over bytes) (none ∙ ap (λ o. bytes_in (file_in o)) (sym there));
  }

  pub new_beside : (m : ℕ) → m ≢ n → get t.places m ≡ get s.places m
  new_beside m away = ap (λ (t : Numbers). get t.places m) is ∙ get_other s.places n m (unopened content) away

-- the file of a number with other bytes, and once more with others
module _ (s t u : Numbers) (n : ℕ) (first content : FileContent) (out : t ≡ altered (with_file (with_bytes first)) s n) where
  module _ (file : OpenFile) (there : get s.places n ≡ Some (present (A_file file))) where
    put_out : get t.places n ≡ Some (present (A_file (with_bytes first file)))
    put_out = ap (λ (t : Numbers). get t.places n) out ∙ place-altered (with_file (with_bytes first)) s n ∙ ap (option_map (with_file (with_bytes first))) there

    pub still_file : IsSome (option_and_then file_of (object_at t n))
    still_file = subst (λ (o : Option Place). IsSome (option_and_then file_of (held o))) (sym put_out) refl

    pub written_over : (bytes : FileChanges) (former : FileContent) → u ≡ altered (with_file (with_bytes content)) t n → option_map (λ (f : OpenFile). f.bytes) (file_in (get s.places n)) ≡ Some former
        → content.bytes ≡ view_over bytes former.bytes → IsWrittenOver bytes (get s.places n) (get u.places n)
    written_over bytes former back was seen = record {
      content = content;
      place = ap (λ (u : Numbers). get u.places n) back ∙ place-altered (with_file (with_bytes content)) t n ∙ ap (option_map (with_file (with_bytes content))) put_out
          ∙ ap (λ o. Some (present (A_file (record { bytes = content; openings = openings_of (file_in o) })))) (sym there);
      shown = seen ∙ ap (λ (c : FileContent). view_over bytes c.bytes) (sym (some_same file.bytes former (sym (ap (λ o. option_map (λ (f : OpenFile). f.bytes) (file_in o)) there) ∙ was)))
          ∙ ap (λ o. view_over bytes (bytes_in (file_in o))) (sym there);
    }

  pub over_beside : u ≡ altered (with_file (with_bytes content)) t n → (m : ℕ) → m ≢ n → get u.places m ≡ get s.places m
  over_beside back m away =
      ap (λ (u : Numbers). get u.places m) back ∙ place-other (with_file (with_bytes content)) t n m away
      ∙ ap (λ (t : Numbers). get t.places m) out ∙ place-other (with_file (with_bytes first)) s n m away
