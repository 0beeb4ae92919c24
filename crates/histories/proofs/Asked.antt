-- What a call asks under 7, wrong way, is that labels flow along what it carries. Assumes nothing.
use Rattle.std.proofs.Common.{◌≡◌, ℕ, false, eqb, List, [], ◌∷◌, sym, refl, ◌∙◌}
use Rattle.std.proofs.lemmas.Bool.{false≢true, eq-eqb}
use Rattle.labels.specs.Meaning.{Meaning}
use Rattle.tables.specs.declared.types.Tables.{Tables}
use Rattle.calls.specs.declared.types.Call.{Call}
use Rattle.calls.specs.declared.types.Call.TheVariants.{Enter, Launch, Leave, Read, Write, Create, Delete, Move, Raise, Mix, Unmix, Rights, Allow, Bar}
use Rattle.calls.specs.Calls.{Ask, asks, AllFine, FineAt}
use Rattle.histories.specs.Carries.{carries}
use Rattle.histories.specs.Faithful.{AllFlow, Uncarried, CarriesWhatItAsks}

asked : (m : Meaning) (t : Tables) (c : Call) → FineAt 7 (asks m t c) → AllFlow m t (carries t c) × Uncarried m t c
asked m t (Enter u n l) f = (tt, tt)
asked m t (Launch s o n l) f = let g = f.1.1.1.1.1.1.1.1 in ((g.0 refl, (g.1.0 refl, tt)), tt)
asked m t (Leave s) f = (tt, tt)
asked m t (Read s o) f = ((f.1.1.1.0 refl, tt), tt)
asked m t (Write s o) f = ((f.1.1.1.1.0 refl, tt), tt)
asked m t (Create s p n k l) f = let g = f.1.1.1.1.1.1.1.1.1 in ((g.0 refl, (g.1.0 refl, tt)), tt)
asked m t (Delete s o) f = let g = f.1.1.1 in ((g.0 refl, (g.1.0 refl, tt)), tt)
asked m t (Move s o q) f = let g = f.1.1.1.1.1.1 in ((g.0 refl, (g.1.0 refl, (g.1.1.0 refl, (g.1.1.1.0 refl, tt)))), tt)
asked m t (Raise s o l) f = let g = f.1.1.1.1 in ((g.0 refl, tt), g.1.0 refl)
asked m t (Mix s o) f = ((f.1.1.1.1.0 refl, tt), tt)
asked m t (Unmix s o) f = ((f.1.1.1.1.0 refl, tt), tt)
asked m t (Rights s o u mask) f = ((f.1.1.1.1.1.0 refl, tt), tt)
asked m t (Allow s u o) f = (tt, tt)
asked m t (Bar s u o) f = (tt, tt)

-- what is asked under another number than 7
off : {P : Type 0} (w : ℕ) → eqb w 7 ≡ false → w ≡ 7 → P
off w not e = absurd (false≢true (sym not ∙ eq-eqb w 7 e))

answered : (m : Meaning) (t : Tables) (c : Call) → AllFlow m t (carries t c) → Uncarried m t c → FineAt 7 (asks m t c)
answered m t (Enter u n l) a x = (off 1 refl, (off 1 refl, (off 2 refl, (off 3 refl, (off 8 refl, tt)))))
answered m t (Launch s o n l) a x = (off 1 refl, (off 1 refl, (off 1 refl, (off 2 refl, (off 3 refl, (off 4 refl, (off 5 refl, (off 6 refl, ((λ _. a.0), ((λ _. a.1.0), (off 8 refl, tt)))))))))))
answered m t (Leave s) a x = (off 1 refl, tt)
answered m t (Read s o) a x = (off 1 refl, (off 1 refl, (off 5 refl, ((λ _. a.0), tt))))
answered m t (Write s o) a x = (off 1 refl, (off 1 refl, (off 4 refl, (off 5 refl, ((λ _. a.0), tt)))))
answered m t (Create s p n k l) a x = (off 1 refl, (off 1 refl, (off 1 refl, (off 2 refl, (off 3 refl, (off 4 refl, (off 4 refl, (off 5 refl, (off 6 refl, ((λ _. a.0), ((λ _. a.1.0), (off 9 refl, tt))))))))))))
answered m t (Delete s o) a x = (off 1 refl, (off 1 refl, (off 5 refl, ((λ _. a.0), ((λ _. a.1.0), (off 10 refl, (off 10 refl, (off 10 refl, tt))))))))
answered m t (Move s o q) a x = (off 1 refl, (off 1 refl, (off 1 refl, (off 4 refl, (off 5 refl, (off 5 refl, ((λ _. a.0), ((λ _. a.1.0), ((λ _. a.1.1.0), ((λ _. a.1.1.1.0), (off 9 refl, (off 9 refl, (off 9 refl, tt)))))))))))))
answered m t (Raise s o l) a x = (off 1 refl, (off 1 refl, (off 3 refl, (off 5 refl, ((λ _. a.0), ((λ _. x), (off 9 refl, (off 9 refl, tt))))))))
answered m t (Mix s o) a x = (off 1 refl, (off 1 refl, (off 4 refl, (off 5 refl, ((λ _. a.0), tt)))))
answered m t (Unmix s o) a x = (off 1 refl, (off 1 refl, (off 4 refl, (off 5 refl, ((λ _. a.0), (off 9 refl, tt))))))
answered m t (Rights s o u mask) a x = (off 1 refl, (off 1 refl, (off 1 refl, (off 4 refl, (off 5 refl, ((λ _. a.0), tt))))))
answered m t (Allow s u o) a x = (off 1 refl, (off 1 refl, (off 1 refl, (off 4 refl, (off 6 refl, tt)))))
answered m t (Bar s u o) a x = (off 1 refl, (off 1 refl, (off 1 refl, (off 4 refl, (off 6 refl, tt)))))

pub carries_what_it_asks : CarriesWhatItAsks
carries_what_it_asks m t c = (asked m t c, answered m t c)

-- where all is fine, what is asked under one number is
fine_at : (w : ℕ) (wanted : List Ask) → AllFine wanted → FineAt w wanted
fine_at w [] fine = tt
fine_at w (a ∷ rest) fine = ((λ e. fine.0), fine_at w rest fine.1)

-- so along all that a granted call carries labels flow
pub all_flow : (m : Meaning) (t : Tables) (c : Call) → AllFine (asks m t c) → AllFlow m t (carries t c)
all_flow m t c fine = (asked m t c (fine_at 7 (asks m t c) fine)).0
