-- The quick loop: a turn of the quick way in the window is a step, and the steps done so far with those that are left make up the run.
use Prim.Native.Nat.{ℕ, ◌+◌, ◌-◌, ◌%◌, ◌<◌, ◌≤◌}
use native.Mathlib.Omega.{arith}
use mathlib.Core.Path.{◌≡◌, refl, sym, ◌∙◌, ap}
use mathlib.Core.Bool.{Bool, true, false}
use mathlib.Core.List.{List}
use borrow.Author.Tests.{lt-ltb, le-leb}
use lib.ListN.{length}
use Rattle.pages.specs.declared.Access.TheVariants.{Fetch}
use Rattle.pages.specs.Look.{At, look_of}
use Rattle.pages.specs.Framed.{framed_of}
use Rattle.pages.proofs.ReachLaws.{reach_inside, reach_below}
use Rattle.fields.specs.Direct.{flat}
use Rattle.machine.specs.Run.{run}
use Rattle.machine.specs.Step.{step}
use Rattle.machine.specs.Machine.{ops_for}
use Rattle.actions.specs.declared.Now.{Now}
use Rattle.std.specs.Prelude.{Ok}
use Rattle.actions.specs.Answered.{cpu_of, told, doing}
use Rattle.actions.specs.Whole.{whole}
use Rattle.quick.specs.declared.Window.{Window}
use Rattle.quick.specs.declared.Turn.{Turn}
use Rattle.quick.specs.declared.Turn.TheVariants.{On, Away, Undone}
use Rattle.quick.specs.Places.{counter_at, now_at, Stands, Placed}
use Rattle.quick.specs.Turns.{Same, Comes, Turned}
use Rattle.engine.specs.declared.Spun.{Spun}
use Rattle.engine.specs.Entry.{Ready, inside, adds, Went}
use Rattle.engine.proofs.Texts.{step_whole}
use Rattle.engine.proofs.ReachedText.{text_reached}
use Rattle.engine.proofs.Windows.{not_before, not_past, held, window_found, window_six, window_small, window_marked, ready_after}
use Rattle.engine.proofs.Runs.{run_start, run_on}

-- a place in the window
pub record Lies (w : Window) (map : List ℕ) (size at : ℕ) : Type 0 where
  pub ready : Ready w map size
  pub stands : Stands w at
  pub before : at < w.base + w.len

-- what an instruction there has: six bytes in memory, its counter, and its text, whose page has its mark
module _ (w : Window) (mem map : List ℕ) (at : ℕ) (l : Lies w map (length mem) at) where
  there : w.base + (counter_at w at - w.first) ≡ at
  there = omega (arith, l.stands.behind)

  is_inside : true ≡ inside w (counter_at w at)
  is_inside =
      let a : w.first ≤ counter_at w at = omega arith in
      let b : counter_at w at - w.first < w.len = omega (arith, l.stands.behind, l.before) in
      rw (le-leb w.first (counter_at w at) a, lt-ltb (counter_at w at - w.first) w.len b)

  abbrev room : ℕ
  room = (held w mem map l.ready (counter_at w at) true is_inside refl).far - (counter_at w at - w.first)

  found : look_of map (length mem) Fetch (counter_at w at) ≡ At at room
  found =
      window_found w mem map l.ready (counter_at w at) true is_inside refl
      ∙ ap (λ (x : ℕ). At x room) there

  six : 6 ≤ room
  six = window_six w mem map l.ready (counter_at w at) true is_inside refl

  pub six_there : at + 6 ≤ length mem
  six_there = omega (arith, six, reach_inside map (length mem) Fetch (counter_at w at) at room found)

  pub two_there : at + 2 ≤ length mem
  two_there = omega (arith, six_there)

  low : counter_at w at + 6 ≤ 2097152
  low = omega (arith, six, reach_below map (length mem) Fetch (counter_at w at) at room found)

  pub here : Placed w at
  here =
      record {
        stands = l.stands;
        near = omega (arith, low);
        fits = omega (arith, window_small w mem map l.ready (counter_at w at) true is_inside refl);
      }

  -- what was done is the step
  module _ (text code mask : ℕ) (e : text ≡ flat mem at 2 0) (n : Now) (regs regs' mem' map' : List ℕ) where
    turn_steps : Comes (whole text (flat mem (at + 2) 2 0) (flat mem (at + 4) 2 0)) (now_at w at code mask) n regs mem map regs' mem' map'
        → told (Ok n) regs' (now_at w at code mask) (framed_of mem' map') ≡ doing step regs (now_at w at code mask) (framed_of mem map)
    turn_steps =
        step_whole regs (now_at w at code mask) mem map (λ o. omega (arith, o, l.stands.even))
        (Ok (record { h1 = text; h2 = flat mem (at + 2) 2 0; h3 = flat mem (at + 4) 2 0 })) map
        (text_reached mem map (counter_at w at) at room (At at room) (sym found) refl six text (flat mem (at + 2) 2 0) (flat mem (at + 4) 2 0) map e refl refl
        (window_marked w mem map l.ready (counter_at w at) true is_inside refl))
        (record { h1 = text; h2 = flat mem (at + 2) 2 0; h3 = flat mem (at + 4) 2 0 }) refl
        (told (Ok n) regs' (now_at w at code mask) (framed_of mem' map'))

-- what the loop keeps: the steps so far and the run that is left, the lists' lengths, and a place in the window
pub record Spins (w : Window) (budget mask at₀ code₀ : ℕ) (regs₀ mem₀ map₀ regs mem map : List ℕ) (at code left : ℕ) : Type 0 where
  pub so_far : run ops_for step budget (cpu_of regs₀ (now_at w at₀ code₀ mask)) (framed_of mem₀ map₀)
      ≡ adds (budget - left) (run ops_for step left (cpu_of regs (now_at w at code mask)) (framed_of mem map))
  pub most : left ≤ budget
  pub regs_long : length regs ≡ length regs₀
  pub mem_long : length mem ≡ length mem₀
  pub map_long : length map ≡ length map₀
  pub lies : Lies w map (length mem) at

-- a turn: the step that was done and the run from there on, or nothing
module _ (w : Window) (budget mask at₀ code₀ : ℕ) (regs₀ mem₀ map₀ regs mem map : List ℕ) (at code left : ℕ)
    (s : Spins w budget mask at₀ code₀ regs₀ mem₀ map₀ regs mem map at code left) (some : 0 < left) (text : ℕ) (e : text ≡ flat mem at 2 0)
    (turn : Turn) (regs' mem' map' : List ℕ) (placed : Placed w at)
    (t : Turned turn (record { window = w; at = at; text = text; code = code; mask = mask; placed = placed }) (whole text (flat mem (at + 2) 2 0) (flat mem (at + 4) 2 0)) regs mem map regs' mem' map') where
  abbrev DoneAt : Now → Type 0
  DoneAt n = Comes (whole text (flat mem (at + 2) 2 0) (flat mem (at + 4) 2 0)) (now_at w at code mask) n regs mem map regs' mem' map'

  abbrev LeftAt : ℕ → Now → Type 0
  LeftAt fewer n =
      run ops_for step budget (cpu_of regs₀ (now_at w at₀ code₀ mask)) (framed_of mem₀ map₀)
      ≡ adds (budget - fewer) (run ops_for step fewer (cpu_of regs' n) (framed_of mem' map'))

  one_fewer_lem : (n : Now) → DoneAt n → LeftAt (left - 1) n
  one_fewer_lem n d =
      s.so_far
      ∙ run_on regs mem map (now_at w at code mask) budget left some s.most (Ok n) n regs' mem' map'
      (turn_steps w mem map at s.lies text code mask e n regs regs' mem' map' d)
      refl

  module _ (a k : ℕ) (o : turn ≡ On a k) where
    on : DoneAt (now_at w a k mask) × Stands w a
    unfolding Turned
    on = rw o at t

    pub on_stands : Stands w a
    on_stands = on.1

    pub on_left : LeftAt (left - 1) (now_at w a k mask)
    on_left = one_fewer_lem (now_at w a k mask) on.0

    pub on_spins : a < w.base + w.len → length regs' ≡ length regs → length mem' ≡ length mem → length map' ≡ length map
        → Spins w budget mask at₀ code₀ regs₀ mem₀ map₀ regs' mem' map' a k (left - 1)
    on_spins b lr lm lp =
        record {
          so_far = on_left;
          most = omega (arith, s.most);
          regs_long = lr ∙ s.regs_long;
          mem_long = lm ∙ s.mem_long;
          map_long = lp ∙ s.map_long;
          lies =
              record {
                ready =
                    ready_after w mem map s.lies.ready regs (now_at w at code mask) (Ok (now_at w a k mask)) (now_at w a k mask) regs' mem' map'
                    (turn_steps w mem map at s.lies text code mask e (now_at w a k mask) regs regs' mem' map' on.0)
                    refl
                    lm;
                stands = on.1;
                before = b;
              };
        }

  pub away_left : (q k : ℕ) → turn ≡ Away q k → LeftAt (left - 1) (record { pc = q; code = k; mask = mask })
  unfolding Turned
  away_left q k o = one_fewer_lem (record { pc = q; code = k; mask = mask }) (rw o at t)

  pub undone_left : (q k : ℕ) → turn ≡ Undone q k → LeftAt left (record { pc = q; code = k; mask = mask })
  unfolding Turned
  undone_left q k o = s.so_far ∙ rw (← u.1.0, ← u.1.1.0, ← u.1.1.1, ← u.0.counter, ← u.0.still)
    where
      u : Same (record { window = w; at = at; text = text; code = code; mask = mask; placed = placed }) q k × ((regs' ≡ regs) × ((mem' ≡ mem) × (map' ≡ map)))
      u = rw o at t

-- nothing done
true_false : (b : Bool) → b ≡ true → b ≡ false → ⊥
true_false b t f = let z : ◌≡◌ {A = ℕ} 0 1 = cc in omega arith

pub went_still : (c : Now) (budget : ℕ) (regs mem map : List ℕ) (r : Spun) → (r.now ≡ c) × (r.left ≡ budget) × (r.stuck ≡ true)
    → Went c budget regs mem map regs mem map r
went_still c budget regs mem map r (n, l, t) =
    record {
      so_far = run_start budget (cpu_of regs c) (framed_of mem map) ∙ rw (n, l);
      most = omega (arith, l);
      goes = λ f p. absurd (true_false r.stuck t f);
      stays = λ s p. omega (arith, l, p);
    }

-- the loop's beginning and its end
module _ (w : Window) (c : Now) (mem map : List ℕ) (ready : Ready w map (length mem)) (t : inside w c.pc ≡ true) where
  abbrev begin : ℕ
  begin = w.base + (c.pc - w.first)

  first_before : w.first ≤ c.pc
  first_before = not_before w mem map ready c.pc true (sym t) refl

  counted : counter_at w begin ≡ c.pc
  counted = omega (arith, first_before)

  counts : now_at w begin c.code c.mask ≡ c
  counts = λ i. record { pc = counted i; code = c.code; mask = c.mask }

  low_pc : c.pc < 4294967296
  low_pc =
      omega (
        arith,
        window_six w mem map ready c.pc true (sym t) refl,
        reach_below map (length mem) Fetch c.pc (w.base + (c.pc - w.first)) ((held w mem map ready c.pc true (sym t) refl).far - (c.pc - w.first))
            (window_found w mem map ready c.pc true (sym t) refl),
      )

  pub begins : c.pc % 2 ≡ 0 → (budget : ℕ) (regs : List ℕ)
      → Spins w budget c.mask begin c.code regs mem map regs mem map begin c.code budget
  begins e budget regs =
      record {
        so_far = run_start budget (cpu_of regs (now_at w begin c.code c.mask)) (framed_of mem map);
        most = omega arith;
        regs_long = refl;
        mem_long = refl;
        map_long = refl;
        lies =
            record {
              ready = ready;
              stands = record { behind = omega arith; even = ap (λ (x : ℕ). x % 2) counted ∙ e; word = omega (arith, counted, low_pc) };
              before = omega (arith, not_past w mem map ready c.pc true (sym t) refl);
            };
      }

  module _ (budget : ℕ) (regs regs' mem' map' : List ℕ) (r : Spun)
      (e : run ops_for step budget (cpu_of regs (now_at w begin c.code c.mask)) (framed_of mem map) ≡ adds (budget - r.left) (run ops_for step r.left (cpu_of regs' r.now) (framed_of mem' map')))
      (l : r.left ≤ budget) where
    from_c : run ops_for step budget (cpu_of regs c) (framed_of mem map) ≡ adds (budget - r.left) (run ops_for step r.left (cpu_of regs' r.now) (framed_of mem' map'))
    from_c = ap (λ (x : Now). run ops_for step budget (cpu_of regs x) (framed_of mem map)) (sym counts) ∙ e

    pub went_on : r.stuck ≡ false → (0 < budget → r.left < budget) → Went c budget regs mem map regs' mem' map' r
    went_on f fewer =
        record { so_far = from_c; most = l; goes = λ s. fewer; stays = λ s p. absurd (true_false r.stuck s f) }

    pub went_stuck : r.stuck ≡ true → 0 < r.left → Went c budget regs mem map regs' mem' map' r
    went_stuck s some =
        record { so_far = from_c; most = l; goes = λ f p. absurd (true_false r.stuck s f); stays = λ x p. some }
