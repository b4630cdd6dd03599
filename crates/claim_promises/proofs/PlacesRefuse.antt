-- The numbers that a places file is refused by, read and written. Assumes nothing.
use Prim.Native.Nat.{ℕ, ◌+◌, ◌-◌, ◌*◌, ◌^◌}
use mathlib.Core.Bool.{not}
use mathlib.Core.Path.{refl}
use mathlib.Core.List.{List, [], ◌∷◌}
use lib.ListN.{length}
use lib.Dec.{ltb, eqb}
use Rattle.answer.specs.Answer.{both, then}
use Rattle.answer.specs.Tables.{find, among}
use Rattle.answer.specs.Refusals.{listed, in_table, refusals}
use Rattle.field.specs.Fields.{little_at}
use Rattle.stream_header.specs.declared.Header.{Header}
use Rattle.stream_finder.specs.Finder.{State}
use Rattle.stream_places.specs.File.{FileForm, trailer_size, words_at, trailer_at, spells, checked, trailer_by}
use Rattle.stream_places.specs.Places.{on_chain, load_for, load_by, save_for, save_by}
use Rattle.stream_places.specs.declared.trailer.Trailer.{Trailer}
use Rattle.claim_promises.specs.ByTable.{Refuses, fits, gives}
use Rattle.claim_promises.proofs.ByTable.{by-stop, by-then, within, wider}
use Rattle.claim_promises.proofs.StreamRefuses.{header-refuses}

pub trailer-refuses : (F : FileForm) (f : List ℕ) → Refuses (20 ∷ []) (trailer_by F f)
unfolding trailer_by checked fits among listed find in_table refusals
trailer-refuses F f =
    by-stop (ltb (length f) (trailer_size F)) 20 refl
    (by-stop (not (spells f (length f - 4) F.letters)) 20 refl
    (by-stop (not (eqb (little_at 1 f (length f - trailer_size F + F.width + 1)) 0)) 20 refl
    (by-stop (ltb 6 (trailer_at F f (length f - trailer_size F)).shift) 20 refl
    (by-stop (not (eqb (trailer_at F f (length f - trailer_size F)).distance (length f))) 20 refl
    (by-stop (not (eqb (length f) (4 * (trailer_at F f (length f - trailer_size F)).count + trailer_size F))) 20 refl
    (by-stop (ltb (trailer_at F f (length f - trailer_size F)).count F.least) 20 refl
    gives))))))

-- behind an accepted header
abbrev of_loading : List ℕ
of_loading = 20 ∷ 21 ∷ 13 ∷ 22 ∷ []

load-for-refuses : (s f t : List ℕ) (h : Header) (k : Trailer) → Refuses of_loading (load_for s f t h k)
unfolding load_for fits among listed find in_table refusals
load-for-refuses s f t h k =
    by-stop (both (eqb k.count 0) (ltb h.minimum_index h.maximum_index)) 20 refl
    (by-stop (not (eqb k.minimum_index h.minimum_index)) 21 refl
    (by-stop (not (eqb k.maximum_index h.maximum_index)) 21 refl
    (by-stop (not (eqb k.stream_length (length s))) 21 refl
    (by-stop (not (eqb k.header_size h.header_size)) 21 refl
    (by-stop (ltb (length t) k.count) 13 refl
    (by-stop (not (on_chain s (2 ^ k.shift) h.header_size (words_at k.count f 0))) 22 refl
    gives))))))

pub loading-refuses : (F : FileForm) (s f t : List ℕ) (h : Header) → Refuses of_loading (then (trailer_by F f) (load_for s f t h))
unfolding among within
loading-refuses F s f t h = by-then (wider refl (trailer-refuses F f)) (λ k. load-for-refuses s f t h k)

abbrev pub of_loads : List ℕ
of_loads = 16 ∷ 1 ∷ 2 ∷ 3 ∷ 4 ∷ 5 ∷ 20 ∷ 21 ∷ 13 ∷ 22 ∷ []

pub load-refuses : (F : FileForm) (s f t : List ℕ) → Refuses of_loads (load_by F s f t)
unfolding load_by among within
load-refuses F s f t = by-then (wider refl (header-refuses s)) (λ h. wider refl (loading-refuses F s f t h))

pub save-for-refuses : (F : FileForm) (n : ℕ) (σ : State) (room : ℕ) (h : Header) → Refuses (21 ∷ 26 ∷ 13 ∷ 19 ∷ []) (save_for F n σ room h)
unfolding save_for fits among listed find in_table refusals
save-for-refuses F n σ room h =
    by-stop (not (eqb σ.finder.minimum_index h.minimum_index)) 21 refl
    (by-stop (not (eqb σ.finder.maximum_index h.maximum_index)) 21 refl
    (by-stop (ltb 6 σ.finder.shift) 26 refl
    (by-stop (ltb (length σ.table) σ.finder.held) 13 refl
    (by-stop (ltb F.most σ.finder.held) 13 refl
    (by-stop (ltb room (4 * σ.finder.held + trailer_size F)) 19 refl
    gives)))))

abbrev pub of_saves : List ℕ
of_saves = 16 ∷ 1 ∷ 2 ∷ 3 ∷ 4 ∷ 5 ∷ 21 ∷ 26 ∷ 13 ∷ 19 ∷ []

pub save-refuses : (F : FileForm) (s : List ℕ) (σ : State) (room : ℕ) → Refuses of_saves (save_by F s σ room)
unfolding save_by among within
save-refuses F s σ room = by-then (wider refl (header-refuses s)) (λ h. wider refl (save-for-refuses F (length s) σ room h))
