-- What each processor may do, one processor more at a time.
use Rattle.std.proofs.Common.{◌≡◌, ◌∙◌, ◌+◌, ℕ, zero, suc, List, ◌++◌, map, Option, Some, None, slice_get, refl, sym, ap, arith, append-nil, append_assoc}
use Rattle.std.specs.List.{flat_map, range_with_len}
use Rattle.cpu_core.specs.Turn.{CpuState}
use Rattle.switching.specs.Choice.{Choice}
use Rattle.script_runner.specs.declared.pick.Pick.{Pick}
use Rattle.script_runner.specs.Choosing.{by_number, choice_of, chosen_of, of_found}
use Rattle.script_runner.specs.World.{WorldSeen}

-- of the processors below a number
abbrev pub below : WorldSeen → (ℕ → CpuState → List Choice) → ℕ → List Choice
below w f n = flat_map (by_number w f) (range_with_len 0 n)

pub below_more : (w : WorldSeen) (f : ℕ → CpuState → List Choice) (n : ℕ) → below w f (n + 1) ≡ below w f n ++ by_number w f n
below_more w f n = ends 0 n n (omega arith)
  where
    g : ℕ → List Choice
    g = by_number w f

    ends : (a k j : ℕ) → a + k ≡ j → flat_map g (range_with_len a (k + 1)) ≡ flat_map g (range_with_len a k) ++ g j
    ends a zero j same = append-nil (g a) ∙ ap g (let is : a ≡ j = omega (arith, same) in is)
    ends a (suc k) j same =
        let next : suc k + 1 ≡ suc (k + 1) = omega arith in
        ap (λ (i : ℕ). flat_map g (range_with_len a i)) next
        ∙ ap (λ (cs : List Choice). g a ++ cs) (ends (a + 1) k j (omega (arith, same)))
        ∙ sym (append_assoc (g a) (flat_map g (range_with_len (a + 1) k)) (g j))

-- two things of one processor
both : (o : Option CpuState) (f g : CpuState → List Choice) → of_found o (λ x. f x ++ g x) ≡ of_found o f ++ of_found o g
both None f g = refl
both (Some x) f g = refl

pub two_more : (w : WorldSeen) (f g : ℕ → CpuState → List Choice) (n : ℕ) → below w (λ c x. f c x ++ g c x) (n + 1) ≡ (below w (λ c x. f c x ++ g c x) n ++ by_number w f n) ++ by_number w g n
two_more w f g n =
    below_more w (λ c x. f c x ++ g c x) n
    ∙ ap (λ (cs : List Choice). below w (λ c x. f c x ++ g c x) n ++ cs) (both (slice_get w.cpus n) (f n) (g n))
    ∙ sym (append_assoc (below w (λ c x. f c x ++ g c x) n) (by_number w f n) (by_number w g n))

-- ---- and what is picked of them

pub one_pushed : (w : WorldSeen) (f : ℕ → CpuState → List Choice) (n : ℕ) (front : List Choice) (old new : List Pick) (a : Option Pick) → map choice_of old ≡ front ++ below w f n → map choice_of new ≡ map choice_of old ++ chosen_of a → chosen_of a ≡ by_number w f n → map choice_of new ≡ front ++ below w f (n + 1)
one_pushed w f n front old new a before pushed is =
    pushed ∙ ap (λ (cs : List Choice). cs ++ chosen_of a) before ∙ ap (λ (cs : List Choice). (front ++ below w f n) ++ cs) is
    ∙ append_assoc front (below w f n) (by_number w f n) ∙ ap (λ (cs : List Choice). front ++ cs) (sym (below_more w f n))

pub two_pushed : (w : WorldSeen) (f g : ℕ → CpuState → List Choice) (n : ℕ) (front : List Choice) (old between new : List Pick) (a b : Option Pick) → map choice_of old ≡ front ++ below w (λ c x. f c x ++ g c x) n → map choice_of between ≡ map choice_of old ++ chosen_of a → chosen_of a ≡ by_number w f n → map choice_of new ≡ map choice_of between ++ chosen_of b → chosen_of b ≡ by_number w g n → map choice_of new ≡ front ++ below w (λ c x. f c x ++ g c x) (n + 1)
two_pushed w f g n front old between new a b before first a_is second b_is =
    let all : List Choice = below w (λ c x. f c x ++ g c x) n in
    second ∙ ap (λ (cs : List Choice). cs ++ chosen_of b) (first ∙ ap (λ (cs : List Choice). cs ++ chosen_of a) before)
    ∙ ap (λ (cs : List Choice). ((front ++ all) ++ cs) ++ chosen_of b) a_is
    ∙ ap (λ (cs : List Choice). ((front ++ all) ++ by_number w f n) ++ cs) b_is
    ∙ ap (λ (cs : List Choice). cs ++ by_number w g n) (append_assoc front all (by_number w f n))
    ∙ append_assoc front (all ++ by_number w f n) (by_number w g n)
    ∙ ap (λ (cs : List Choice). front ++ cs) (sym (two_more w f g n))
