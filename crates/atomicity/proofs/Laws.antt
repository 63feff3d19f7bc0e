-- The laws of the atomicity algebra, from one computed test: each is a test of three atomicities, and all pass at all of them. Assumes nothing.
--     then_assoc, both_then, then_both               composition is associative, with B neutral
--     then_mono_left, then_mono_right, then_mono     composition is monotone on either side, and on both
--     then_above                                     what is composed with more only grows
--     order_refl, order_trans, order_join, order_same
--                                                    the order; a is at or below b exactly if the two joined are b, by column and by `==`
--     both_least, not_top_below                      B is at or below everything; below what is not T nothing is T
--     join_left, join_right, join_least, join_mono   the join is the least upper bound, and monotone
--     then_join, join_then                           composition distributes over joins on either side
--     closure_above, closure_twice, closure_mono     the closure is above, closed, and monotone
--     loop_again                                     one turn more stays within the loop: (x ; b*) ; b is at or below x ; b*
--     right_before, right_after                      both parts of what is at or below R are at or below R
--     left_after                                     past the commit, what may still follow in a block is at or below L
use Rattle.std.proofs.Common.{◌≡◌, refl, subst, Bool, true, false, not, ◌&&◌, List, [], ◌∷◌, map, ℕ, zero, suc, eqb, get_or, T, eqb→eq}
use lib.Dec.{not_T}
use denote.Enum.Bare.{sameb, tag_one}
use mir.Facts.{and_yes}
use Rattle.atomicity.proofs.Table.{values_of, values_of_at}
use Rattle.atomicity.specs.Atomicity.{composition, join, closure, at_most}
use Rattle.atomicity.specs.Internal.Column.{column}
use Rattle.atomicity.specs.contracts.Atomicity.{the_type}
use Rattle.atomicity.specs.declared.Atomicity.{Atomicity}
use Rattle.atomicity.specs.declared.Atomicity.TheVariants.{Both, Left, Right, Top}

-- Tests

abbrev implies : Bool → Bool → Bool
implies true b = b
implies false b = true

abbrev agree : Bool → Bool → Bool
agree true b = b
agree false b = not b

abbrev same_atomicity : Atomicity → Atomicity → Bool
same_atomicity a b = sameb the_type a b

abbrev all_true : List Bool → Bool
all_true [] = true
all_true (b ∷ bs) = b && all_true bs

-- the test passes at each atomicity
abbrev at_each : (Atomicity → Bool) → Bool
at_each f = all_true (values_of f)

abbrev Test : Type 0
Test = Atomicity → Atomicity → Atomicity → Bool

abbrev at_each_three : Test → Bool
at_each_three t = at_each (λ (a : Atomicity). at_each (λ (b : Atomicity). at_each (t a b)))

-- What a passed test tells

implies_to : (a b : Bool) → T (implies a b) → T a → T b
implies_to true b t h = t
implies_to false b t h = absurd h

agree_eq : (a b : Bool) → T (agree a b) → a ≡ b
agree_eq true true t = refl
agree_eq true false t = absurd t
agree_eq false true t = absurd t
agree_eq false false t = refl

same_atomicity_eq : (a b : Atomicity) → T (same_atomicity a b) → a ≡ b
same_atomicity_eq a b t = tag_one the_type tt a b (eqb→eq _ _ t)

all_true_at : (bs : List Bool) (i : ℕ) → T (all_true bs) → T (get_or bs i true)
all_true_at [] i t = tt
all_true_at (b ∷ bs) zero t = (and_yes b (all_true bs) t).0
all_true_at (b ∷ bs) (suc i) t = all_true_at bs i (and_yes b (all_true bs) t).1

at_each_at : (f : Atomicity → Bool) → T (at_each f) → (a : Atomicity) → T (f a)
at_each_at f t a = subst T (values_of_at f a true) (all_true_at (values_of f) (column a) t)

-- The laws, as tests

data Law : Type 0 where
  associative neutral_left neutral_right monotone_left monotone_right growing : Law
  reflexive transitive by_join by_equal least greatest : Law
  upper_left upper_right least_upper over_join join_over : Law
  closed_above closed closed_monotone one_turn_more : Law
  right_first right_second past_commit : Law

abbrev test : Law → Test
test associative a b c = same_atomicity (composition (composition a b) c) (composition a (composition b c))
test neutral_left a b c = same_atomicity (composition Both a) a
test neutral_right a b c = same_atomicity (composition a Both) a
test monotone_left a b c = implies (at_most a b) (at_most (composition a c) (composition b c))
test monotone_right a b c = implies (at_most a b) (at_most (composition c a) (composition c b))
test growing a b c = at_most a (composition a b)
test reflexive a b c = at_most a a
test transitive a b c = implies (at_most a b) (implies (at_most b c) (at_most a c))
test by_join a b c = agree (eqb (column (join a b)) (column b)) (at_most a b)
test by_equal a b c = agree (same_atomicity (join a b) b) (at_most a b)
test least a b c = at_most Both a
test greatest a b c = implies (at_most Top a) (same_atomicity a Top)
test upper_left a b c = at_most a (join a b)
test upper_right a b c = at_most b (join a b)
test least_upper a b c = implies (at_most a c) (implies (at_most b c) (at_most (join a b) c))
test over_join a b c = same_atomicity (composition a (join b c)) (join (composition a b) (composition a c))
test join_over a b c = same_atomicity (composition (join a b) c) (join (composition a c) (composition b c))
test closed_above a b c = at_most a (closure a)
test closed a b c = same_atomicity (closure (closure a)) (closure a)
test closed_monotone a b c = implies (at_most a b) (at_most (closure a) (closure b))
test one_turn_more a b c = at_most (composition (composition a (closure b)) b) (composition a (closure b))
test right_first a b c = implies (at_most (composition a b) Right) (at_most a Right)
test right_second a b c = implies (at_most (composition a b) Right) (at_most b Right)
test past_commit a b c = implies (not (at_most a Right)) (implies (not (same_atomicity (composition a b) Top)) (at_most b Left))

abbrev laws : List Law
laws =
    associative ∷ neutral_left ∷ neutral_right ∷ monotone_left ∷ monotone_right ∷ growing
    ∷ reflexive ∷ transitive ∷ by_join ∷ least ∷ greatest ∷ upper_left
    ∷ upper_right ∷ least_upper ∷ over_join ∷ join_over ∷ closed_above ∷ closed
    ∷ one_turn_more ∷ right_first ∷ right_second ∷ past_commit ∷ closed_monotone ∷ by_equal ∷ []

-- the one computed test
all_pass : T (all_true (map (λ (l : Law). at_each_three (test l)) laws))
unfolding composition join at_most
all_pass = tt

passed_at : (i : ℕ) → T (get_or (map (λ (l : Law). at_each_three (test l)) laws) i true)
passed_at i = all_true_at (map (λ (l : Law). at_each_three (test l)) laws) i all_pass

-- each law by its place in the list, here and nowhere else
passed : (l : Law) → T (at_each_three (test l))
passed associative = passed_at 0
passed neutral_left = passed_at 1
passed neutral_right = passed_at 2
passed monotone_left = passed_at 3
passed monotone_right = passed_at 4
passed growing = passed_at 5
passed reflexive = passed_at 6
passed transitive = passed_at 7
passed by_join = passed_at 8
passed least = passed_at 9
passed greatest = passed_at 10
passed upper_left = passed_at 11
passed upper_right = passed_at 12
passed least_upper = passed_at 13
passed over_join = passed_at 14
passed join_over = passed_at 15
passed closed_above = passed_at 16
passed closed = passed_at 17
passed one_turn_more = passed_at 18
passed right_first = passed_at 19
passed right_second = passed_at 20
passed past_commit = passed_at 21
passed closed_monotone = passed_at 22
passed by_equal = passed_at 23

-- a law at three atomicities
law : (l : Law) (a b c : Atomicity) → T (test l a b c)
law l a b c =
    at_each_at (test l a b)
    (at_each_at (λ (y : Atomicity). at_each (test l a y))
    (at_each_at (λ (x : Atomicity). at_each (λ (y : Atomicity). at_each (test l x y))) (passed l) a) b) c

-- Each law by its name

pub then_assoc : (a b c : Atomicity) → composition (composition a b) c ≡ composition a (composition b c)
then_assoc a b c = same_atomicity_eq _ _ (law associative a b c)

pub both_then : (a : Atomicity) → composition Both a ≡ a
both_then a = same_atomicity_eq _ _ (law neutral_left a a a)

pub then_both : (a : Atomicity) → composition a Both ≡ a
then_both a = same_atomicity_eq _ _ (law neutral_right a a a)

pub then_mono_left : (a b c : Atomicity) → T (at_most a b) → T (at_most (composition a c) (composition b c))
then_mono_left a b c h = implies_to (at_most a b) _ (law monotone_left a b c) h

pub then_mono_right : (a b c : Atomicity) → T (at_most a b) → T (at_most (composition c a) (composition c b))
then_mono_right a b c h = implies_to (at_most a b) _ (law monotone_right a b c) h

pub then_above : (a b : Atomicity) → T (at_most a (composition a b))
then_above a b = law growing a b a

pub order_refl : (a : Atomicity) → T (at_most a a)
order_refl a = law reflexive a a a

pub order_trans : (a b c : Atomicity) → T (at_most a b) → T (at_most b c) → T (at_most a c)
order_trans a b c h k =
    implies_to (at_most b c) _ (implies_to (at_most a b) _ (law transitive a b c) h) k

pub then_mono : (a b x y : Atomicity) → T (at_most a b) → T (at_most x y) → T (at_most (composition a x) (composition b y))
then_mono a b x y h k =
    order_trans (composition a x) (composition b x) (composition b y) (then_mono_left a b x h) (then_mono_right x y b k)

pub order_join : (a b : Atomicity) → eqb (column (join a b)) (column b) ≡ at_most a b
order_join a b = agree_eq _ _ (law by_join a b a)

pub order_same : (a b : Atomicity) → sameb the_type (join a b) b ≡ at_most a b
order_same a b = agree_eq _ _ (law by_equal a b a)

pub both_least : (a : Atomicity) → T (at_most Both a)
both_least a = law least a a a

pub not_top_below : (a b : Atomicity) → T (at_most a b) → (b ≡ Top → ⊥) → a ≡ Top → ⊥
not_top_below a b h n e =
    n (same_atomicity_eq b Top (implies_to (at_most Top b) _ (law greatest b b b)
    (subst (λ (x : Atomicity). T (at_most x b)) e h)))

pub join_left : (a b : Atomicity) → T (at_most a (join a b))
join_left a b = law upper_left a b a

pub join_right : (a b : Atomicity) → T (at_most b (join a b))
join_right a b = law upper_right a b a

pub join_least : (a b c : Atomicity) → T (at_most a c) → T (at_most b c) → T (at_most (join a b) c)
join_least a b c h k =
    implies_to (at_most b c) _ (implies_to (at_most a c) _ (law least_upper a b c) h) k

pub join_mono : (a b x y : Atomicity) → T (at_most a b) → T (at_most x y) → T (at_most (join a x) (join b y))
join_mono a b x y h k =
    join_least a x (join b y) (order_trans a b (join b y) h (join_left b y)) (order_trans x y (join b y) k (join_right b y))

pub then_join : (a b c : Atomicity) → composition a (join b c) ≡ join (composition a b) (composition a c)
then_join a b c = same_atomicity_eq _ _ (law over_join a b c)

pub join_then : (a b c : Atomicity) → composition (join a b) c ≡ join (composition a c) (composition b c)
join_then a b c = same_atomicity_eq _ _ (law join_over a b c)

pub closure_above : (a : Atomicity) → T (at_most a (closure a))
closure_above a = law closed_above a a a

pub closure_twice : (a : Atomicity) → closure (closure a) ≡ closure a
closure_twice a = same_atomicity_eq _ _ (law closed a a a)

pub closure_mono : (a b : Atomicity) → T (at_most a b) → T (at_most (closure a) (closure b))
closure_mono a b h = implies_to (at_most a b) _ (law closed_monotone a b a) h

pub loop_again : (x b : Atomicity) → T (at_most (composition (composition x (closure b)) b) (composition x (closure b)))
loop_again x b = law one_turn_more x b x

pub right_before : (x a : Atomicity) → T (at_most (composition x a) Right) → T (at_most x Right)
right_before x a h = implies_to (at_most (composition x a) Right) _ (law right_first x a x) h

pub right_after : (x a : Atomicity) → T (at_most (composition x a) Right) → T (at_most a Right)
right_after x a h = implies_to (at_most (composition x a) Right) _ (law right_second x a x) h

pub left_after : (x a : Atomicity) → (T (at_most x Right) → ⊥) → (composition x a ≡ Top → ⊥) → T (at_most a Left)
left_after x a h k =
    implies_to (not (same_atomicity (composition x a) Top)) _
    (implies_to (not (at_most x Right)) _
    (law past_commit x a x) (not_T (at_most x Right) h))
    (not_T (same_atomicity (composition x a) Top) (λ (t : T (same_atomicity (composition x a) Top)). k (same_atomicity_eq _ _ t)))
