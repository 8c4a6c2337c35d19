use Rattle.std.proofs.Common.{◌<◌, ◌∙◌, Some, length, map, slice_set, refl, sym, ap, subst}
use Rattle.core_seats.specs.Seats.{seat_shape}
use Rattle.core_seats.proofs.SeatLemmas.{got_mapped, length_map, map_set}
use Rattle.core_seats.proofs.seats.Seats.swap.Goals as goal

pub returns : goal.returns
returns g c =
    let old = c.args.self.now in
    let items = old.seats.items in
    let within : c.args.number < length items = subst (λ n. c.args.number < n) (length_map seat_shape items) c.requires.known in
    record {
      was = got_mapped seat_shape items c.args.number _ within ∙ ap (λ s. Some (seat_shape s)) (sym (c.replace.ensures.value ∙ c.index_mut.ensures.value));
      names = refl;
      seats = map_set seat_shape items c.args.number c.replace.new.dest ∙ ap (λ s. slice_set (map seat_shape items) c.args.number (seat_shape s)) c.replace.ensures.after;
      away = refl;
    }
