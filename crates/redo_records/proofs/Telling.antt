-- What entries that are told come to.
use Rattle.std.proofs.Common.{◌≡◌, ℕ, zero, suc, List, [], ◌∷◌, ◌++◌, map, take, refl, ap, ◌∙◌}
use Rattle.std.specs.List.{flat_map}
use Rattle.model.specs.Steps.{Item}
use Rattle.model.specs.Entries.{Entry}
use Rattle.redo_records.specs.Kept.{AreOf, items_in}
use Rattle.redo_records.specs.Recording.{Tell}

-- the calls of entries are the items that they are of
pub are_items : (its : List Item) (es : List Entry) → AreOf its es → flat_map items_in es ≡ its
are_items [] [] h = refl
are_items [] (e ∷ es) h = absurd h
are_items (it ∷ its) [] h = absurd h
are_items (it ∷ its) (e ∷ es) h = ap (λ xs. xs ++ flat_map items_in es) h.0 ∙ ap (λ xs. it ∷ xs) (are_items its es h.1)

-- and so are those of all records that are told
pub tell_items : (rs : List (List Item)) (ess : List (List Entry)) → Tell rs ess → map (flat_map items_in) ess ≡ rs
tell_items [] [] h = refl
tell_items [] (es ∷ ess) h = absurd h
tell_items (r ∷ rs) [] h = absurd h
tell_items (r ∷ rs) (es ∷ ess) h = ap (λ xs. xs ∷ map (flat_map items_in) ess) (are_items r es h.0) ∙ ap (λ xs. r ∷ xs) (tell_items rs ess h.1)

-- records that are told behind others
pub tell_more : (rs qs : List (List Item)) (ess fss : List (List Entry)) → Tell rs ess → Tell qs fss → Tell (rs ++ qs) (ess ++ fss)
tell_more [] qs [] fss h g = g
tell_more [] qs (es ∷ ess) fss h g = absurd h
tell_more (r ∷ rs) qs [] fss h g = absurd h
tell_more (r ∷ rs) qs (es ∷ ess) fss h g = (h.0, tell_more rs qs ess fss h.1 g)

-- the first of them
pub tell_first : (n : ℕ) (rs : List (List Item)) (ess : List (List Entry)) → Tell rs ess → Tell (take n rs) (take n ess)
tell_first zero rs ess h = tt
tell_first (suc n) [] [] h = tt
tell_first (suc n) [] (es ∷ ess) h = absurd h
tell_first (suc n) (r ∷ rs) [] h = absurd h
tell_first (suc n) (r ∷ rs) (es ∷ ess) h = (h.0, tell_first n rs ess h.1)
