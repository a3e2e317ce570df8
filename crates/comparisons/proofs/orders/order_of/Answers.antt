use mathlib.Core.Path.{◌≡◌, sym, ap, ◌∙◌}
use Prim.Native.Nat.{ℕ}
use native.Mathlib.Omega.{arith}
use lib.ListN.{length}
use Rattle.std.proofs.Common.{rules, nat_cmp}
use Rattle.std.specs.declared.cmp.Ordering.{Ordering}
use Rattle.std.specs.declared.cmp.Ordering.TheVariants.{Less, Equal, Greater}
use Rattle.std.specs.Ordering.{MatchOrdering}
use Rattle.sets.specs.CheckedSets.{members}
use Rattle.sets.specs.Members.{bit_of}
use Rattle.sets.specs.declared.checked.Checked.{Checked}
use Rattle.comparisons.specs.Orders.{order, words_order}
use Rattle.comparisons.specs.Compares.{order_number}
use Rattle.comparisons.proofs.OrderLaws.{equal_numbers, as_long, lengths_differ}
use Rattle.comparisons.proofs.orders.order_of.Goals as goal

-- the lengths decide, or then the words
decided : (a b : Checked) (o r : Ordering) {P : Type 0} → o ≡ nat_cmp a.length b.length → MatchOrdering o (r ≡ Less) P (r ≡ Greater)
    → (P → length a.words.now ≡ length b.words.now → order_number r ≡ words_order 0 (length a.words.now) (bit_of a.words.now) (bit_of b.words.now))
    → order_number r ≡ order (members a) (members b)
decided a b Less r e m words =
    ap order_number m ∙ ap order_number e ∙ lengths_differ a b (λ z. let q : ◌≡◌ {A = ℕ} 1 0 = ap order_number (e ∙ z) in omega arith)
decided a b Equal r e m words = as_long a b (equal_numbers _ _ (sym e)) _ (words m)
decided a b Greater r e m words =
    ap order_number m ∙ ap order_number e ∙ lengths_differ a b (λ z. let q : ◌≡◌ {A = ℕ} 2 0 = ap order_number (e ∙ z) in omega arith)

pub returns : goal.returns
returns c = decided c.args.a c.args.b c.cmp.result c.then_with.result c.cmp.ensures c.then_with.ensures (λ k. search rules)
