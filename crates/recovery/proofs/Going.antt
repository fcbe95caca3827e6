-- A replay that goes on, record by record.
use Rattle.std.proofs.Common.{◌≡◌, ℕ, List, [], ◌∷◌, ◌++◌, Option, Some, None, Bool, true, false, refl, sym, ap, subst, ◌∙◌, append_assoc, append-nil, map}
use Rattle.std.specs.Prelude.{IsTrue, MatchOption}
use Rattle.std.specs.List.{flat_map, AllByRecursion}
use Rattle.std.proofs.lemmas.List.{map-append}
use Rattle.std.proofs.lemmas.Grind.{flat_map-append}
use Rattle.history.specs.Log.{Log as History}
use Rattle.machine.specs.Shown.{Shown, Kept}
use Rattle.model.specs.Entries.{Entry}
use Rattle.model.specs.Moments.{Setup}
use Rattle.sqlite_disk.specs.declared.Disk.{Ghosts}
use Rattle.commit_log.specs.declared.reader.Reader.{Reader}
use Rattle.commit_log.specs.Reader.{disk_of, payload_of, IsAt}
use Rattle.commit_log.specs.Reads.{IsClean, OnlyReads}
use Rattle.entry_codec.specs.Entries.{entries_bytes}
use Rattle.store_form.specs.Setups.{setup_bytes, IsSetup}
use Rattle.store_form.specs.Stores.{Told, told_of, IsRecord, IsStore}
use Rattle.recovery.specs.Coming.{Comes, IsMadeAgain, Tells}
use Rattle.recovery.specs.Going.{BeginsBy, Goes, IsBegun, IsFirst, IsReplayed, Stood}
use Rattle.recovery.proofs.Coming.{runs_to}

all_of_both : {X : Type 0} (P : X → Type 0) (xs ys : List X) → AllByRecursion P xs → AllByRecursion P ys → AllByRecursion P (xs ++ ys)
all_of_both P [] ys p q = q
all_of_both P (x ∷ xs) ys p q = (p.0, all_of_both P xs ys p.1 q)

-- a store of the setup alone
store_begins : (setup : Setup) → IsSetup setup → IsStore setup (setup_bytes setup ∷ []) []
store_begins setup is = record { is_setup = is; records = []; each = tt; bytes = refl; tell = refl }

-- one record more
store_more : (setup : Setup) (payloads : List (List ℕ)) (told : List Told) (es : List Entry) (payload : List ℕ) → IsStore setup payloads told → IsRecord es → payload ≡ entries_bytes es
    → IsStore setup (payloads ++ payload ∷ []) (told ++ told_of es)
store_more setup payloads told es payload store is same = record {
  is_setup = store.is_setup;
  records = store.records ++ es ∷ [];
  each = all_of_both IsRecord store.records (es ∷ []) store.each (is, tt);
  bytes = ap (λ (ps : List (List ℕ)). ps ++ payload ∷ []) store.bytes
      ∙ ap (λ (p : List ℕ). (setup_bytes setup ∷ map entries_bytes store.records) ++ p ∷ []) same
      ∙ ap (λ (ps : List (List ℕ)). setup_bytes setup ∷ ps) (sym (map-append entries_bytes store.records (es ∷ [])));
  tell = ap (λ (ts : List Told). ts ++ told_of es) store.tell
      ∙ ap (λ (ts : List Told). flat_map told_of store.records ++ ts) (sym (append-nil (told_of es)))
      ∙ sym (flat_map-append told_of store.records (es ∷ []));
}

module _ {D : Type 0} (g : Ghosts D) where
  pub reads_both : (a b c : D) → OnlyReads g a b → OnlyReads g b c → OnlyReads g a c
  reads_both a b c p q = record {
    seen = q.seen ∙ p.seen;
    clean = λ h. p.clean (q.clean h);
    usable = q.usable;
    crash = λ file h. p.crash file (q.crash file h);
  }

  pub reads_same : (a : D) → IsTrue (g.is_usable a) → OnlyReads g a a
  reads_same a usable = record { seen = refl; clean = λ h. h; usable = usable; crash = λ file h. h }

  -- what holds up to a record, and then of it, holds behind it
  pub goes_then : (a b c : Reader D g) (before mid : History) (v : Shown) (ended : Bool)
      → OnlyReads g (disk_of b) (disk_of c)
      → (IsClean g (disk_of b) → (payloads : List (List ℕ)) → Goes g a before payloads → Goes g b mid payloads)
      → (IsClean g (disk_of c) → (payloads : List (List ℕ)) → Goes g b mid payloads → Stood g ended c v payloads)
      → IsClean g (disk_of c) → (payloads : List (List ℕ)) → Goes g a before payloads → Stood g ended c v payloads
  goes_then a b c before mid v ended same p q clean payloads goes = q clean payloads (p (same.clean clean) payloads goes)

  pub stood_more : (c : Reader D g) (v : Shown) (payloads : List (List ℕ)) (ended : Bool) → ended ≡ false → Stood g ended c v payloads → Goes g c v.log payloads
  stood_more c v payloads true is replayed = absurd cc
  stood_more c v payloads false is goes = goes

  pub stood_last : (c : Reader D g) (v : Shown) (payloads : List (List ℕ)) (ended : Bool) → ended ≡ true → Stood g ended c v payloads → IsReplayed g c v payloads
  stood_last c v payloads true is replayed = replayed
  stood_last c v payloads false is goes = absurd cc

  pub goes_begun : (reader : Reader D g) (log : History) (setup : Setup) (payloads : List (List ℕ)) → IsSetup setup → IsBegun g reader setup payloads → Comes setup log [] → Goes g reader log payloads
  goes_begun reader log setup payloads is begun comes = record {
    setup = setup;
    read = setup_bytes setup ∷ [];
    rest = begun.later;
    told = [];
    whole = begun.whole;
    is_at = begun.is_at;
    store = store_begins setup is;
    comes = comes;
  }

  -- one record more was read, and made again
  pub goes_on : (old new : Reader D g) (before after : History) (payloads later : List (List ℕ)) (es : List Entry) (goes : Goes g old before payloads)
      → goes.rest ≡ payload_of new ∷ later → IsAt new (goes.read ++ payload_of new ∷ []) later → IsRecord es → payload_of new ≡ entries_bytes es → Tells before after (told_of es)
      → Goes g new after payloads
  goes_on old new before after payloads later es goes is_rest is_at is same tells = record {
    setup = goes.setup;
    read = goes.read ++ payload_of new ∷ [];
    rest = later;
    told = goes.told ++ told_of es;
    whole = goes.whole ∙ ap (λ (ps : List (List ℕ)). goes.read ++ ps) is_rest ∙ sym (append_assoc goes.read (payload_of new ∷ []) later);
    is_at = is_at;
    store = store_more goes.setup goes.read goes.told es (payload_of new) goes.store is same;
    comes = tells goes.setup goes.told goes.comes;
  }

  -- what the next record of a reader is
  abbrev pub NextReads : Reader D g → Reader D g → Option ℕ → Type 0
  NextReads old new found =
      IsClean g (disk_of new) → (before rest : List (List ℕ)) → IsAt old before rest
      → MatchOption found ((rest ≡ []) × IsAt new before [])
      (λ place. (later : List (List ℕ)) × (rest ≡ payload_of new ∷ later) × IsAt new (before ++ payload_of new ∷ []) later)

  pub is_first : (old new : Reader D g) (found : Option ℕ) (place : ℕ) → found ≡ Some place → NextReads old new found → IsFirst g old new
  is_first old new found place is reads clean payloads is_at = (subst (λ (o : Option ℕ). NextReads old new o) is reads) clean [] payloads is_at

  pub setup_next : (old new : Reader D g) (setup : Setup) → IsFirst g old new → IsSetup setup → payload_of new ≡ setup_bytes setup → BeginsBy g old new setup
  setup_next old new setup first is_setup same = record {
    is_setup = is_setup;
    begins = λ clean payloads is_at.
        let next = first clean payloads is_at in
        record {
          later = next.0;
          whole = next.1 ∙ ap (λ (p : List ℕ). p ∷ next.0) same;
          is_at = subst (λ (p : List ℕ). IsAt new (p ∷ []) next.0) same next.2;
        };
  }

  pub record_next : (old new : Reader D g) (before after : History) (found : Option ℕ) (place : ℕ) → found ≡ Some place → NextReads old new found
      → IsMadeAgain before after (payload_of new) → IsClean g (disk_of new) → (payloads : List (List ℕ)) → Goes g old before payloads → Goes g new after payloads
  record_next old new before after found place is reads again clean payloads goes =
      let next = (subst (λ (o : Option ℕ). NextReads old new o) is reads) clean goes.read goes.rest goes.is_at in
      goes_on old new before after payloads next.0 again.0 goes next.1 next.2 again.1 again.2 again.3

  -- none was left
  replayed_whole : (old new : Reader D g) (v : Shown) (payloads : List (List ℕ)) → Kept v → (goes : Goes g old v.log payloads) → goes.rest ≡ [] → IsAt new goes.read [] → IsReplayed g new v payloads
  replayed_whole old new v payloads kept goes none is_at =
      let all : goes.read ≡ payloads = sym (goes.whole ∙ ap (λ (ps : List (List ℕ)). goes.read ++ ps) none ∙ append-nil goes.read) in
      record {
        setup = goes.setup;
        told = goes.told;
        is_at = subst (λ (ps : List (List ℕ)). IsAt new ps []) all is_at;
        store = subst (λ (ps : List (List ℕ)). IsStore goes.setup ps goes.told) all goes.store;
        comes = goes.comes;
        runs = runs_to goes.setup v goes.told kept goes.comes;
      }

  pub none_next : (old new : Reader D g) (v : Shown) (found : Option ℕ) → found ≡ None → Kept v → NextReads old new found
      → IsClean g (disk_of new) → (payloads : List (List ℕ)) → Goes g old v.log payloads → IsReplayed g new v payloads
  none_next old new v found is kept reads clean payloads goes =
      let next = (subst (λ (o : Option ℕ). NextReads old new o) is reads) clean goes.read goes.rest goes.is_at in
      replayed_whole old new v payloads kept goes next.0 next.1
