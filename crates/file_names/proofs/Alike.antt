-- The derived equality of what is known of files: it answers whether two are the same.
use mathlib.Core.Path.{◌≡◌, refl, sym, ap}
use Rattle.std.specs.Prelude.{Option, Some, None}
use Rattle.std.specs.Bool.{Decides}
use Rattle.std.specs.Option.{option_eq}
use Rattle.std.proofs.lemmas.Bool.Decides.{Decides-like, Decides-and, Decides-eqb, Decides-int_eq}
use Rattle.std.proofs.lemmas.Option.{same_Some, none-some}
use Rattle.file_names.specs.contracts.about.KnownPartialEq.TheImpl as known
use Rattle.file_names.specs.contracts.about.TimePartialEq.TheImpl as time
use Rattle.file_names.specs.declared.about.Known.{Known}
use Rattle.file_names.specs.declared.about.Time.{Time}

times-alike : (a b : Time) → Decides (time.eq-value.it a b) (a ≡ b)
times-alike a b =
    Decides-like (time.eq-value.it a b) (λ p i. record { seconds = p.0 i; nanoseconds = p.1 i }) (λ e. (ap (λ t. t.seconds) e, ap (λ t. t.nanoseconds) e))
    (Decides-and _ _ (Decides-int_eq a.seconds b.seconds) (Decides-int_eq a.nanoseconds b.nanoseconds))

known-alike : (a b : Known) → Decides (known.eq-value.it a b) (a ≡ b)
known-alike a b =
    Decides-like (known.eq-value.it a b)
    (λ p i.
    record {
      owner = p.0 i;
      group = p.1.0 i;
      mode = p.1.1.0 i;
      device = p.1.1.1.0 i;
      inode = p.1.1.1.1.0 i;
      size = p.1.1.1.1.1.0 i;
      written = p.1.1.1.1.1.1.0 i;
      changed = p.1.1.1.1.1.1.1 i;
    })
    (λ e. (ap (λ k. k.owner) e, (ap (λ k. k.group) e, (ap (λ k. k.mode) e, (ap (λ k. k.device) e, (ap (λ k. k.inode) e, (ap (λ k. k.size) e, (ap (λ k. k.written) e, ap (λ k. k.changed) e))))))))
    (Decides-and _ _ (Decides-eqb a.owner b.owner)
    (Decides-and _ _ (Decides-eqb a.group b.group)
    (Decides-and _ _ (Decides-eqb a.mode b.mode)
    (Decides-and _ _ (Decides-eqb a.device b.device)
    (Decides-and _ _ (Decides-eqb a.inode b.inode)
    (Decides-and _ _ (Decides-int_eq a.size b.size) (Decides-and _ _ (times-alike a.written b.written) (times-alike a.changed b.changed))))))))

-- and where there may be none
pub maybe-alike : (a b : Option Known) → Decides (option_eq known.eq-value.it a b) (a ≡ b)
maybe-alike None None = (λ e. refl, λ e. refl)
maybe-alike None (Some y) = (λ e. cc, λ e. absurd (none-some y e))
maybe-alike (Some x) None = (λ e. cc, λ e. absurd (none-some x (sym e)))
maybe-alike (Some x) (Some y) = Decides-like (known.eq-value.it x y) (ap Some) (same_Some x y) (known-alike x y)
