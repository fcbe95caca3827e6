-- The room for the descriptors that changes give, process by process.
use Rattle.std.proofs.Common.{◌≡◌, ◌≢◌, ℕ, zero, suc, ◌<◌, ◌≤◌, Bool, List, [], ◌∷◌, ◌++◌, length, get_or, set, None, nat_cmp, ap, ◌∙◌, arith}
use Rattle.model.specs.FiniteMap.{empty, get, get-empty}
use Rattle.fdtable.specs.Pages.{HasRoom}
use Rattle.fdtable.specs.Patches.{Given}
use Rattle.notes.specs.Openings.{AreRoomy}
use Rattle.notes.proofs.DistinctProcesses.{patch_at}
use Rattle.notes.proofs.SlotLemmas.{Entries}

-- there is room at each place
pub rooms_reach : (es : Entries) (rooms : List (List Bool)) → AreRoomy es rooms → length es ≤ length rooms
rooms_reach [] rooms roomy = omega arith
rooms_reach (e ∷ es) [] roomy = absurd roomy
rooms_reach (e ∷ es) (room ∷ rooms) roomy = let rest : length es ≤ length rooms = rooms_reach es rooms roomy.1 in omega arith

pub room_at : (es : Entries) (rooms : List (List Bool)) (i : ℕ) → AreRoomy es rooms → i < length es
    → (f : ℕ) → get (patch_at es i) f ≢ None → HasRoom (get_or rooms i []) f
room_at [] rooms i roomy low = absurd (omega arith)
room_at (e ∷ es) [] i roomy low = absurd roomy
room_at (e ∷ es) (room ∷ rooms) zero roomy low = roomy.0
room_at (e ∷ es) (room ∷ rooms) (suc i) roomy low = room_at es rooms i roomy.1 (omega arith)

-- other changes, and other room for them, in the place of those before
pub rooms_set : (es : Entries) (rooms : List (List Bool)) (i k : ℕ) (w : Given) (now : List Bool) → AreRoomy es rooms
    → ((f : ℕ) → get w f ≢ None → HasRoom now f) → AreRoomy (set es i (k, w)) (set rooms i now)
rooms_set [] rooms i k w now roomy fits = tt
rooms_set (e ∷ es) [] i k w now roomy fits = absurd roomy
rooms_set (e ∷ es) (room ∷ rooms) zero k w now roomy fits = (fits, roomy.1)
rooms_set (e ∷ es) (room ∷ rooms) (suc i) k w now roomy fits = (roomy.0, rooms_set es rooms i k w now roomy.1 fits)

-- room more than is needed
pub rooms_more : (es : Entries) (rooms : List (List Bool)) (room : List Bool) → AreRoomy es rooms → AreRoomy es (rooms ++ room ∷ [])
rooms_more [] rooms room roomy = tt
rooms_more (e ∷ es) [] room roomy = absurd roomy
rooms_more (e ∷ es) (first ∷ rooms) room roomy = (roomy.0, rooms_more es rooms room roomy.1)

-- no changes of one process more
pub rooms_pushed : (es : Entries) (rooms : List (List Bool)) (room : List Bool) (pid : ℕ) (w : Given) → w ≡ empty → AreRoomy es rooms
    → AreRoomy (es ++ (pid, w) ∷ []) (rooms ++ room ∷ [])
rooms_pushed [] [] room pid w none roomy = (λ f some. absurd (some (ap (λ (g : Given). get g f) none ∙ get-empty nat_cmp f)), tt)
rooms_pushed [] (first ∷ rooms) room pid w none roomy = (λ f some. absurd (some (ap (λ (g : Given). get g f) none ∙ get-empty nat_cmp f)), tt)
rooms_pushed (e ∷ es) [] room pid w none roomy = absurd roomy
rooms_pushed (e ∷ es) (first ∷ rooms) room pid w none roomy = (roomy.0, rooms_pushed es rooms room pid w none roomy.1)
